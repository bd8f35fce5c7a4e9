-- `engine::release::release` meets its contract: a walk that puts each task's next left work.
use Prim.Native.Nat.{ℕ}
use mathlib.Core.Path.{◌≡◌}
use mathlib.Core.Bool.{cond}
use mathlib.Core.List.{List}
use lib.Dec.{eqb}
use Rattle.laws.specs.Lists.{at}
use Rattle.laws.proofs.Filling.{filled}
use Rattle.engine.proofs.release.release.Given as goal

-- the left work of task j after the releases
abbrev pub next : List ℕ → List ℕ → List ℕ → ℕ → ℕ
next phase c left j = cond (eqb (at phase j) 0) (at c j) (at left j)

abbrev pub invariant-loop-i : goal.invariant-loop-i
invariant-loop-i l = l.left ≡ filled (next l.phase l.c l.initial.left) l.initial.left l.i
