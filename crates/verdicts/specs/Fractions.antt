-- The fraction as a struct, and as the rules have it.
use Rattle.rules.specs.Verdicts as Rules
use Rattle.verdicts.specs.declared.share.Fraction.{Fraction}

abbrev pub pack_fraction : Rules.Fraction → Fraction
pack_fraction f = record { num = f.num; den = f.den }

abbrev pub view_fraction : Fraction → Rules.Fraction
view_fraction f = record { num = f.num; den = f.den }
