-- `slots::main` meets its contract: the buffer has room for the longest text.
use Prim.Native.Nat.{ℕ}
use mathlib.Core.Path.{sym}
use native.Mathlib.Nat.{le_of_eq}
use lib.ListN.{length-replicate}
use Rattle.reports.specs.Reports.{text_max}
use Rattle.slots.proofs.main.Goals as goal

pub text-size-requires : goal.text-size-requires
text-size-requires c = le_of_eq (sym (length-replicate {A = ℕ} text_max 0))
