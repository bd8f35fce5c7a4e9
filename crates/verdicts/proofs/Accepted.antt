-- What the public functions answer for a table that is accepted, given as the struct that says it: what the rules define.
use Rattle.std.proofs.Common.{Ok}
use Prim.Native.Nat.{ℕ, ◌-◌}
use mathlib.Core.Path.{◌≡◌, refl, ap, ◌∙◌}
use mathlib.Core.List.{List, [], ◌∷◌, ◌++◌, map}
use lib.Dec.{T}
use lib.ListN.{length, take, replicate}
use Rattle.rules.specs.Limits.{tasks_max}
use Rattle.rules.specs.Refusals.{taken, settle}
use Rattle.rules.specs.Repeat.{repeat_length}
use Rattle.rules.specs.Tables.{Table, list_tests, accepts}
use Rattle.rules.specs.Verdicts.{verdict, heavy_count, order}
use Rattle.rules.specs.Runs.{verdict_line}
use Rattle.rules.specs.declared.kinds.TaskNumber.{TaskNumber}
use Rattle.reading_laws.proofs.Tests.{settle-passes}
use Rattle.tables.specs.Views.{pack, view}
use Rattle.tables.proofs.Views.{view-pack}
use Rattle.verdicts.specs.Lines.{verdict_frame}
use Rattle.verdicts.specs.Structs.{lines_tests, struct_tests, judgement_of, verdict_answer, number_of, pack_ranks, priority_answer}

module _ (tbl : Table) where
  -- the tests of the struct are those of the list of rows
  pub packed_tests : struct_tests (pack tbl) ≡ list_tests tbl.m tbl.rows
  unfolding struct_tests lines_tests list_tests pack
  packed_tests = rw (view-pack tbl)

  module _ (accepted : T (accepts tbl)) where
    all_passed : {A : Type 0} (a : A) → settle (struct_tests (pack tbl)) a ≡ taken a
    unfolding accepts
    all_passed a = rw packed_tests (settle-passes (list_tests tbl.m tbl.rows) a accepted)

    -- `verdict`
    pub verdict-accepted : verdict_answer (settle (struct_tests (pack tbl)) (judgement_of (view (pack tbl)))) ≡ Ok (judgement_of tbl)
    verdict-accepted = ap verdict_answer (all_passed (judgement_of (view (pack tbl)))) ∙ rw (view-pack tbl)

    -- `priority`
    pub priority-accepted : priority_answer (settle (struct_tests (pack tbl)) (order (view (pack tbl)))) ≡ Ok (pack_ranks (order tbl))
    priority-accepted = ap priority_answer (all_passed (order (view (pack tbl)))) ∙ rw (view-pack tbl)

  -- the frame of its judgement is its line
  pub verdict-line : verdict_frame (verdict tbl) (heavy_count tbl) (repeat_length tbl.rows) ≡ verdict_line tbl
  unfolding verdict_line
  verdict-line = refl

-- the numbers of packed ranks are the ranks
front : (ranks : List ℕ) (rest : List TaskNumber) → take (length ranks) (map (λ i. i.0) (map number_of ranks ++ rest)) ≡ ranks
front [] rest = refl
front (i ∷ ranks) rest = ap (λ (l : List ℕ). i ∷ l) (front ranks rest)

pub plain-packed : (ranks : List ℕ) → take (length ranks) (map (λ i. i.0) (pack_ranks ranks)) ≡ ranks
unfolding pack_ranks
plain-packed ranks = front ranks (replicate (tasks_max - length ranks) (number_of 0))
