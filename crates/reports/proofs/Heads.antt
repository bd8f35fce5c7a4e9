-- The lines that come before the slots, of a table that was accepted.
use Rattle.std.proofs.Common.{Result, Ok}
use Prim.Native.Nat.{ℕ, ◌+◌, ◌*◌, min}
use mathlib.Core.Path.{◌≡◌, sym, ◌∙◌}
use mathlib.Core.List.{List, ◌++◌, map}
use native.Mathlib.Omega.{arith}
use lib.Dec.{T}
use lib.ListN.{length, take, length-append}
use Rattle.rules.specs.Limits.{tasks_max}
use Rattle.rules.specs.Refusals.{settle}
use Rattle.rules.specs.Repeat.{repeat_length}
use Rattle.rules.specs.Runs.{verdict_line, order_line}
use Rattle.rules.specs.Tables as Rules
use Rattle.rules.specs.Tables.{size, accepts}
use Rattle.rules.specs.Verdicts.{verdict, heavy_count, order}
use Rattle.rules.specs.declared.refusal.Refused.{Refused}
use Rattle.rules.specs.declared.kinds.TaskNumber.{TaskNumber}
use Rattle.rules.specs.declared.verdict.Verdict.{Verdict}
use Rattle.priority_laws.proofs.Priority.{order-length}
use Rattle.reading_laws.proofs.Tests.{accepts-iff}
use Rattle.tables.specs.Views.{view}
use Rattle.tables.specs.declared.table.Table.{Table}
use Rattle.tables.proofs.Views.{length-view}
use Rattle.verdicts.specs.Lines.{verdict_frame}
use Rattle.verdicts.specs.Structs.{struct_tests, judgement_of, verdict_answer, pack_ranks, priority_answer}
use Rattle.verdicts.specs.declared.table.Judgement.{Judgement}
use Rattle.verdicts.proofs.Accepted.{verdict-accepted, priority-accepted, verdict-line, plain-packed}
use Rattle.verdicts.proofs.Pieces.{length-verdict, length-order_line}
use Rattle.machine.specs.Tables.{Opened}
use Rattle.reports.specs.Heads.{head, head_length}

-- ---- how long they are

pub length-verdict_line : (tbl : Rules.Table) → length (verdict_line tbl) ≡ 15
unfolding verdict_line
length-verdict_line tbl = length-verdict _ _ _

pub length_ranks_line : (tbl : Rules.Table) → length (order_line (order tbl)) ≡ 2 * size tbl + 3
length_ranks_line tbl = length-order_line (order tbl) ∙ omega (arith, order-length tbl)

-- both together
pub length-head : (tbl : Rules.Table) → length (head tbl) ≡ head_length tbl
length-head tbl = length-append (verdict_line tbl) (order_line (order tbl)) ∙ omega (arith, length-verdict_line tbl, length_ranks_line tbl)

-- ---- what the analysis answers

-- how many tasks there are
pub count_is : (t : Table) → length t.rows ≡ tasks_max → {n : ℕ} → n ≡ min t.n.0 tasks_max → n ≡ size (view t)
count_is t full e = e ∙ sym (length-view t full)

module _ (t : Table) (o : Opened t) where
  pub accepted : T (accepts (view t))
  accepted = (accepts-iff (view t)).1 o.sound.bounds

  -- the verdict is given, and it is the table's
  pub judged : verdict_answer (settle (struct_tests t) (judgement_of (view t))) ≡ Ok (judgement_of (view t))
  judged = rw o.formed at (verdict-accepted (view t) accepted)

  pub judged_is : {a : Result Judgement Refused} {j : Judgement} → a ≡ verdict_answer (settle (struct_tests t) (judgement_of (view t))) → a ≡ Ok j → j ≡ judgement_of (view t)
  judged_is {a} {j} is e =
      let same : Ok j ≡ Ok (judgement_of (view t)) = sym e ∙ is ∙ judged in
      cc

  -- the frame of its numbers is the table's line
  pub judgement-written : (rest : List ℕ) {now : List ℕ} {v : Verdict} {heavy h : ℕ}
      → now ≡ verdict_frame v heavy h ++ rest
      → v ≡ verdict (view t)
      → heavy ≡ heavy_count (view t)
      → h ≡ repeat_length (view t).rows
      → now ≡ verdict_line (view t) ++ rest
  judgement-written rest e ev en eh = e ∙ rw (ev, en, eh, verdict-line (view t))

  -- the order is given, and it is the table's
  pub ordered : priority_answer (settle (struct_tests t) (order (view t))) ≡ Ok (pack_ranks (order (view t)))
  ordered = rw o.formed at (priority-accepted (view t) accepted)

  -- the front of the array of ranks is the order
  pub ranks-front : {a : Result (List TaskNumber) Refused} {tasks : List TaskNumber} {ranks : List ℕ} {n : ℕ}
      → a ≡ priority_answer (settle (struct_tests t) (order (view t)))
      → a ≡ Ok tasks
      → ranks ≡ map (λ i. i.0) tasks
      → n ≡ size (view t)
      → take n ranks ≡ order (view t)
  ranks-front {a} {tasks} {ranks} {n} is e er en =
      let same : Ok tasks ≡ Ok (pack_ranks (order (view t))) = sym e ∙ is ∙ ordered in
      let packed : tasks ≡ pack_ranks (order (view t)) = cc in
      rw (er, packed, en, ← order-length (view t)) (plain-packed (order (view t)))
