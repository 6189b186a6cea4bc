-- Document 01's letters, for the page of formulas: each stands for the slot of its own name in the table of slots.
use Rattle.equations.specs.Formula.{Formula, letter, slot, g_at_x, h_at_x, g_at_x'}

-- Site
abbrev pub Zs : Formula
Zs = letter (slot "Zs")

abbrev pub BD : Formula
BD = letter (slot "BD")

abbrev pub tD : Formula
tD = letter (slot "tD")

abbrev pub θ : Formula
θ = letter (slot "θ")

abbrev pub Xe : Formula
Xe = letter (slot "Xe")

abbrev pub SD : Formula
SD = letter (slot "SD")

abbrev pub ER : Formula
ER = letter (slot "ER")

abbrev pub RO : Formula
RO = letter (slot "RO")

abbrev pub R : Formula
R = letter (slot "R")

abbrev pub VG : Formula
VG = letter (slot "VG")

abbrev pub FRsnow : Formula
FRsnow = letter (slot "FRsnow")

-- Chemical
abbrev pub Q : Formula
Q = letter (slot "Q")

abbrev pub HgA : Formula
HgA = letter (slot "HgA")

abbrev pub HgD : Formula
HgD = letter (slot "HgD")

abbrev pub Fv : Formula
Fv = letter (slot "Fv")

abbrev pub Cyv : Formula
Cyv = letter (slot "Cyv")

abbrev pub Cyp : Formula
Cyp = letter (slot "Cyp")

abbrev pub Dydv : Formula
Dydv = letter (slot "Dydv")

abbrev pub Dywv : Formula
Dywv = letter (slot "Dywv")

abbrev pub Dydp : Formula
Dydp = letter (slot "Dydp")

abbrev pub Dywp : Formula
Dywp = letter (slot "Dywp")

abbrev pub Kds : Formula
Kds = letter (slot "Kds")

abbrev pub ksg : Formula
ksg = letter (slot "ksg")

abbrev pub ksv : Formula
ksv = letter (slot "ksv")

abbrev pub Br : Formula
Br = letter (slot "Br")

abbrev pub RCF : Formula
RCF = letter (slot "RCF")

abbrev pub AFinh : Formula
AFinh = letter (slot "AFinh")

abbrev pub AForal : Formula
AForal = letter (slot "AForal")

abbrev pub AFderm : Formula
AFderm = letter (slot "AFderm")

-- Receptor
abbrev pub BW : Formula
BW = letter (slot "BW")

abbrev pub ED : Formula
ED = letter (slot "ED")

abbrev pub ATc : Formula
ATc = letter (slot "ATc")

abbrev pub IRinh : Formula
IRinh = letter (slot "IRinh")

abbrev pub ETinh : Formula
ETinh = letter (slot "ETinh")

abbrev pub EFinh : Formula
EFinh = letter (slot "EFinh")

abbrev pub IRsoil : Formula
IRsoil = letter (slot "IRsoil")

abbrev pub ETsoil : Formula
ETsoil = letter (slot "ETsoil")

abbrev pub EFs : Formula
EFs = letter (slot "EFs")

abbrev pub EFw : Formula
EFw = letter (slot "EFw")

abbrev pub SAb : Formula
SAb = letter (slot "SAb")

abbrev pub SAFb : Formula
SAFb = letter (slot "SAFb")

abbrev pub SAh : Formula
SAh = letter (slot "SAh")

abbrev pub SAFh : Formula
SAFh = letter (slot "SAFh")

abbrev pub ETderm : Formula
ETderm = letter (slot "ETderm")

abbrev pub IRag : Formula
IRag = letter (slot "IRag")

abbrev pub Fag : Formula
Fag = letter (slot "Fag")

abbrev pub IRbg : Formula
IRbg = letter (slot "IRbg")

abbrev pub Fbg : Formula
Fbg = letter (slot "Fbg")

abbrev pub WP : Formula
WP = letter (slot "WP")

abbrev pub EFp : Formula
EFp = letter (slot "EFp")

abbrev pub T2 : Formula
T2 = letter (slot "T2")

-- at x
abbrev pub g : Formula
g = letter g_at_x

abbrev pub h : Formula
h = letter h_at_x

-- at k × (T2 − tD)
abbrev pub g' : Formula
g' = letter g_at_x'
