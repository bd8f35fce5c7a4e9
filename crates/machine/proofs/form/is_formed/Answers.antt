-- `machine::form::is_formed` meets its contract: each test is one conjunct of the form.
use Prim.Native.Nat.{◌*◌, ◌≤◌}
use mathlib.Core.Path.{◌≡◌, sym, ap, ◌∙◌}
use mathlib.Core.Bool.{Bool, true, ◌&&◌}
use mathlib.Core.List.{List}
use native.Mathlib.Omega.{arith}
use Rattle.std.proofs.Math.Bool.{and_comm}
use lib.ListN.{take}
use lib.Seq.{length-take-le}
use denote.Laws.{Is}
use denote.Struct.Declared.{row}
use mir.Val.{Val}
use lib.Dec.{leb}
use Rattle.std.proofs.Common.{rules, Result, Ok}
use Rattle.rules.specs.declared.refusal.Refused.{Refused}
use Rattle.std.specs.Cmp.Lexicographic.{pointwise}
use Rattle.std.specs.Prelude.{nat_eq}
use Rattle.laws.specs.Lists.{same}
use Rattle.laws.proofs.Tests.{to_T}
use Rattle.rules.specs.Limits.{tasks_max, clock_max}
use Rattle.rules.specs.Refusals.{settle}
use Rattle.rules.specs.Verdicts.{order}
use Rattle.rules.specs.declared.kinds.TaskNumber.{TaskNumber}
use Rattle.tables.specs.Views as Tables
use Rattle.verdicts.specs.Structs.{struct_tests, priority_answer}
use Rattle.machine.specs.contracts.state.State as StateType
use Rattle.machine.specs.declared.state.State.{State}
use Rattle.machine.specs.Views.{tasks, viewed, padded, formed}
use Rattle.machine.proofs.Arrays.{state_full}
use Rattle.machine.proofs.Packing.{padded-few}
use Rattle.machine.proofs.Passing.{taken-accepts, refused-accepts, taken-ranks}
use Rattle.machine.proofs.Forming.{held, fit, not_padded, not_accepted, form_left, ready}
use Rattle.machine.proofs.Walking.{same_by}
use Rattle.machine.proofs.form.is_formed.Goals as goal

-- where the padding holds, all tasks have places
few-of : (s : State) {b : Bool} → b ≡ padded s → b ≡ true → tasks s ≤ tasks_max
few-of s e holds = padded-few s (to_T (sym e ∙ holds))

-- where the padding holds and the analysis is taken, the form is what the last tests say
form-of : (s : State) {vs : List Val} {p : Result (List TaskNumber) Refused} {ranks : List TaskNumber} {b : Bool} → Is (row StateType.the_type) s vs → b ≡ padded s → b ≡ true
    → p ≡ priority_answer (settle (struct_tests s.table) (order (Tables.view s.table))) → p ≡ Ok ranks
    → formed s
    ≡ (leb s.clock.0 clock_max && pointwise (λ x y. nat_eq x.0 y.0) (take (tasks s) s.ranks) (take (tasks s) ranks) && fit s
    && leb s.moves (s.table.m.0 * s.clock.0) && leb s.misses (tasks_max * s.clock.0))
unfolding viewed
form-of s {vs} {ranks = ranks} w e holds is taken =
    let full = state_full s vs w in
    let few = few-of s e holds in
    let accepting = taken-accepts s.table full.rows few is taken in
    let order_is = taken-ranks s.table full.rows few is taken in
    form_left s full few (sym e ∙ holds) accepting
    ∙ ap (λ (b : Bool). b && fit s && leb s.moves (s.table.m.0 * s.clock.0) && leb s.misses (tasks_max * s.clock.0)) (and_comm (held s) (leb s.clock.0 clock_max))
    ∙ ap (λ (b : Bool). leb s.clock.0 clock_max && b && fit s && leb s.moves (s.table.m.0 * s.clock.0) && leb s.misses (tasks_max * s.clock.0))
    (sym (same_by (λ (x : TaskNumber). x.0) (take (tasks s) s.ranks) (take (tasks s) ranks)
    ∙ ap (λ (l : List TaskNumber). same (viewed (λ x. x.0) (tasks s) s.ranks) (viewed (λ x. x.0) (tasks s) l)) order_is))

pub returns-then-not-is_padded : goal.returns-then-not-is_padded
returns-then-not-is_padded c =
    not_padded _ (state_full c.args.s _ c.well_formed.0) (sym c.is_padded.ensures ∙ c.if-not-is_padded.true)

pub returns-in_default : goal.returns-in_default
returns-in_default c =
    let full = state_full c.args.s _ c.well_formed.0 in
    let few = few-of c.args.s c.is_padded.ensures c.if-not-is_padded.false in
    not_accepted c.args.s full (refused-accepts _ full.rows few c.priority.ensures c.in_default.is)

pub shared_ref_as_front-eq : goal.shared_ref_as_front-eq
shared_ref_as_front-eq c = few-of c.args.s c.is_padded.ensures c.if-not-is_padded.false

pub slice_bounds-eq-end : goal.slice_bounds-eq-end
slice_bounds-eq-end c =
    let full = state_full c.args.s _ c.well_formed.0 in
    sym (length-take-le (tasks c.args.s) c.args.s.ranks (omega (arith, full.ranks, few-of c.args.s c.is_padded.ensures c.if-not-is_padded.false)))

pub slice_bounds-eq-end-then-clock-le-MAX : goal.slice_bounds-eq-end-then-clock-le-MAX
slice_bounds-eq-end-then-clock-le-MAX c =
    let few = few-of c.args.s c.is_padded.ensures c.if-not-is_padded.false in
    sym (length-take-le (tasks c.args.s) c.in-Ok.order (omega (arith, few)))

pub tasks_fit-requires : goal.tasks_fit-requires
tasks_fit-requires c =
    let full = state_full c.args.s _ c.well_formed.0 in
    let few = few-of c.args.s c.is_padded.ensures c.if-not-is_padded.false in
    let accepting = taken-accepts _ full.rows few c.priority.ensures c.in-Ok.is in
    ready c.args.s full few accepting (omega arith)

pub returns-then-tasks_fit : goal.returns-then-tasks_fit
returns-then-tasks_fit c =
    let form = form-of c.args.s c.well_formed.0 c.is_padded.ensures c.if-not-is_padded.false c.priority.ensures c.in-Ok.is in
    search rules

pub returns-else-tasks_fit : goal.returns-else-tasks_fit
returns-else-tasks_fit c =
    let form = form-of c.args.s c.well_formed.0 c.is_padded.ensures c.if-not-is_padded.false c.priority.ensures c.in-Ok.is in
    search rules
