-- `text::lines::put_columns` meets its contract: two counts, one after the other. Assumes nothing.
use Rattle.text.proofs.Rows.{columns_counted}
use Rattle.text.proofs.lines.put_columns.Goals as goal

pub returns-in-Some : goal.returns-in-Some
returns-in-Some c =
    columns_counted c.args.line.now _ _ c.args.at c.args.columns _ c.requires c.in-Some.is c.put_number.ensures c.put_number-in-Some.ensures
