-- Document 01, "Loss and series", "Media" and "Six pathways", with document 02's P4 to P6: every formula, once, in its order and with its letters.
-- ⊗ and ⊘ bind alike and from the left, then ⊕ from the left.
use Rattle.std.specs.Prelude.{pos, negsuc}
use Rattle.equations.specs.declared.Pathway.{Pathway}
use Rattle.equations.specs.declared.Pathway.TheVariants.{Air, SoilSummer, SoilWinter, Skin, AboveGround, BelowGround}
use Rattle.equations.specs.declared.Effect.{Effect}
use Rattle.equations.specs.declared.Effect.TheVariants.{Hazard, Cancer}
use Rattle.equations.specs.declared.Stay.{Stay}
use Rattle.equations.specs.declared.Stay.TheVariants.{Within, Beyond}
use Rattle.slots.specs.declared.Guidance.{Guidance}
use Rattle.slots.specs.declared.Guidance.TheVariants.{Of2005, Of2009}
use Rattle.slots.specs.Slots.{Slot}
use Rattle.equations.specs.Formula.{Formula, Algebra, letter, slot, constant, 1−, T2−tD, ◌⊕◌, ◌⊗◌, ◌⊘◌}
use Rattle.equations.specs.Series.{Series, phi, psi}
use Rattle.equations.specs.Letters.{Zs, BD, tD, θ, Xe, SD, ER, RO, R, VG, FRsnow, Q, HgA, HgD, Fv, Cyv, Cyp, Dydv, Dywv, Dydp, Dywp, Kds, ksg, ksv, Br, RCF, AFinh, AForal, AFderm, BW, ED, ATc, IRinh, ETinh, EFinh, IRsoil, ETsoil, EFs, EFw, SAb, SAFb, SAh, SAFh, ETderm, IRag, Fag, IRbg, Fbg, WP, EFp, T2, g, h, g'}

-- Constants: 1, 0.1, 100, 1000, 365 and 0.000001
abbrev pub unity : Formula
unity = constant 1 (pos 0)

abbrev pub tenth : Formula
tenth = constant 1 (negsuc 0)

abbrev pub hundred : Formula
hundred = constant 100 (pos 0)

abbrev pub thousand : Formula
thousand = constant 1000 (pos 0)

abbrev pub days_per_year : Formula
days_per_year = constant 365 (pos 0)

abbrev pub per_million : Formula
per_million = constant 1 (negsuc 5)

-- 1 − Fv, the particle share
abbrev pub 1−Fv : Formula
1−Fv = 1− "Fv"

-- Loss and series
unfoldable pub u : Formula
u = Kds ⊗ BD

unfoldable pub kse : Formula
kse = tenth ⊗ Xe ⊗ SD ⊗ ER ⊘ (BD ⊗ Zs) ⊗ u ⊘ (θ ⊕ u)

unfoldable pub ksr : Formula
ksr = RO ⊘ (θ ⊗ Zs) ⊘ (unity ⊕ u ⊘ θ)

unfoldable pub ksl : Formula
ksl = R ⊘ (θ ⊗ Zs) ⊘ (unity ⊕ u ⊘ θ)

unfoldable pub k : Formula
k = ksg ⊕ kse ⊕ ksr ⊕ ksl ⊕ ksv

unfoldable pub x : Formula
x = k ⊗ tD

-- k × (T2 − tD), and so with a given k
abbrev pub lost_later : Formula → Formula
lost_later k = k ⊗ T2−tD

unfoldable pub x' : Formula
x' = lost_later k

-- g and h at an exponent x, which is k × tD or k × (T2 − tD), in any reading: g = 1 / (1 / φ + x) and h = ψ / (1 + x × φ), with φ and ψ the series
-- there (Series.antt). Where the high end of x is above 64 (P5) the chemical is lost fast: then 1 / φ is next to nothing, and h = (1 − g) / x.
pub data Pace : Type 0 where
  Slow Fast : Pace

pub record Growth (A : Type 0) : Type 0 where
  pub g : A
  pub h : A

-- what a reading makes of the operations, of the series at x, of 1 / φ where the loss is fast, and of 1 − f
pub record Growing (A : Type 0) : Type 1 where
  pub operations : Algebra A
  pub series : Series → A → A
  pub fast : A → A
  pub rest : A → A

unfoldable pub g_with : {A : Type 0} → Algebra A → A → A → A
g_with alg 1/φ x = alg.over (alg.number 1 (pos 0)) (alg.plus 1/φ x)

unfoldable pub growth : {A : Type 0} → Growing A → Pace → A → Growth A
growth {A} r Slow x =
    let alg : Algebra A = r.operations in
    let one : A = alg.number 1 (pos 0) in
    let φ : A = r.series phi x in
    let ψ : A = r.series psi x in
    record { g = g_with alg (alg.over one φ) x; h = alg.over ψ (alg.plus one (alg.times x φ)) }
growth {A} r Fast x =
    let alg : Algebra A = r.operations in
    let g : A = g_with alg (r.fast x) x in
    record { g = g; h = alg.over (r.rest g) x }

-- Media: air in mg/m³, yearly deposition, soil and produce in mg/kg
unfoldable pub A : Formula
A = Q ⊗ HgA ⊗ (Fv ⊗ Cyv ⊕ 1−Fv ⊗ Cyp) ⊘ thousand

unfoldable pub D : Formula
D = hundred ⊗ HgD ⊗ Q ⊘ (Zs ⊗ BD) ⊗ (Fv ⊗ (Dydv ⊕ Dywv) ⊕ (Dydp ⊕ Dywp) ⊗ 1−Fv)

-- the highest year's soil
unfoldable pub C : Formula
C = D ⊗ tD ⊗ g

-- the soil's mean over the exposure: T2 within tD, or beyond it, from what was gathered in tD and the highest year's soil, which decays
unfoldable pub gathered : Formula
gathered = D ⊗ tD ⊗ tD ⊗ h

abbrev pub mean_beyond : Formula → Formula → Formula
mean_beyond gathered C = (gathered ⊕ C ⊗ T2−tD ⊗ g') ⊘ T2

unfoldable pub mean : Stay → Formula
mean Within = D ⊗ tD ⊗ h
mean Beyond = mean_beyond gathered C

-- hazard takes the highest year's, cancer the mean
unfoldable pub soil : Effect → Stay → Formula
soil Hazard stay = C
soil Cancer stay = mean stay

-- produce, in its soil
unfoldable pub above_ground : Formula → Formula
above_ground soil = soil ⊗ Br

unfoldable pub below_ground : Formula → Formula
below_ground soil = soil ⊗ RCF ⊗ VG ⊘ Kds

-- Six pathways: the intake factor, its medium, and the reference value
unfoldable pub AT : Effect → Formula
AT Hazard = days_per_year ⊗ ED
AT Cancer = ATc

unfoldable pub B : Effect → Formula
B e = BW ⊗ AT e

-- what stands above B
unfoldable pub exposure : Pathway → Formula
exposure Air = IRinh ⊗ AFinh ⊗ ETinh ⊗ EFinh ⊗ ED
exposure SoilSummer = IRsoil ⊗ AForal ⊗ ETsoil ⊗ EFs ⊗ ED ⊗ per_million
exposure SoilWinter = IRsoil ⊗ AForal ⊗ FRsnow ⊗ ETsoil ⊗ EFw ⊗ ED ⊗ per_million
exposure Skin = (SAb ⊗ SAFb ⊕ SAh ⊗ SAFh) ⊗ AFderm ⊗ ETderm ⊗ EFs ⊗ ED ⊗ per_million
exposure AboveGround = IRag ⊗ Fag ⊗ WP ⊗ AForal ⊗ EFp ⊗ ED
exposure BelowGround = IRbg ⊗ Fbg ⊗ WP ⊗ AForal ⊗ EFp ⊗ ED

unfoldable pub factor : Effect → Pathway → Formula
factor e p = exposure p ⊘ B e

-- A for 1, the soil for 2 to 4, the produce for 5 and 6
unfoldable pub by_medium : {A : Type 0} → Pathway → A → A → A → A → A
by_medium Air air soil above below = air
by_medium SoilSummer air soil above below = soil
by_medium SoilWinter air soil above below = soil
by_medium Skin air soil above below = soil
by_medium AboveGround air soil above below = above
by_medium BelowGround air soil above below = below

unfoldable pub medium : Effect → Stay → Pathway → Formula
medium e stay p = by_medium p A (soil e stay) (above_ground (soil e stay)) (below_ground (soil e stay))

-- intake factor × medium
unfoldable pub intake : Effect → Stay → Pathway → Formula
intake e stay p = factor e p ⊗ medium e stay p

-- Pathway 1, whose medium is the air, takes RfDi and CSFi, the rest RfDo and CSFo.
unfoldable pub by_route : {A : Type 0} → Pathway → A → A → A
by_route p inhaled oral = by_medium p inhaled oral oral oral

unfoldable pub reference_slot : Effect → Pathway → Slot
reference_slot Hazard p = by_route p "RfDi" "RfDo"
reference_slot Cancer p = by_route p "CSFi" "CSFo"

unfoldable pub reference : Effect → Pathway → Formula
reference e p = letter (slot (reference_slot e p))

-- Quotient = intake / RfD; risk = intake × CSF
unfoldable pub figure_by : Effect → Formula → Formula → Formula
figure_by Hazard intake rfd = intake ⊘ rfd
figure_by Cancer intake csf = intake ⊗ csf

unfoldable pub intake_line : Effect → Stay → Pathway → Formula
intake_line e stay p = figure_by e (intake e stay p) (reference e p)

-- Pathway 1 by the guidance of 2009 (P6) has no intake. Side by side, with their reference values:
--   2005   IRinh × AFinh × ETinh × EFinh × ED / B × A   / RfDi, an RfD             × CSFi, a CSF
--   2009                   ETinh × EFinh × ED / AT × A  / RfDi, an RfC in mg/m³    × 1000 × CSFi, a unit risk per µg/m³
-- The factor of 2009 is the share of time that is spent in the air, and its product with A is a concentration.
unfoldable pub time_in_air : Formula
time_in_air = ETinh ⊗ EFinh ⊗ ED

unfoldable pub time_share : Effect → Formula
time_share e = time_in_air ⊘ AT e

-- quotient = product / reference; risk = product × 1000 × unit risk
unfoldable pub air_figure_by : Effect → Formula → Formula → Formula
air_figure_by Hazard product reference = product ⊘ reference
air_figure_by Cancer product unit_risk = product ⊗ thousand ⊗ unit_risk

unfoldable pub air_line : Effect → Formula
air_line e = air_figure_by e (time_share e ⊗ A) (reference e Air)

-- A line by the year's guidance: by 2005 pathway 1 is of an intake, by 2009 of a concentration in air; every other line is the same in both.
unfoldable pub by_guidance : {A : Type 0} → Guidance → Pathway → A → A → A
by_guidance Of2005 p in_air intake = intake
by_guidance Of2009 p in_air intake = by_route p in_air intake

unfoldable pub line : Guidance → Effect → Stay → Pathway → Formula
line guidance e stay p = by_guidance guidance p (air_line e) (intake_line e stay p)
