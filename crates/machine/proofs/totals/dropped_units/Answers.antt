-- `machine::totals::dropped_units` meets its contract: a sum along the tasks.
use mathlib.Core.Path.{◌∙◌}
use native.Mathlib.Omega.{arith}
use lib.ListN.{take}
use Rattle.std.proofs.Common.{rules, tests}
use Rattle.std.proofs.lemmas.Iterator.{YieldsList-from_slice, YieldsList-from_map}
use Rattle.std.proofs.lemmas.Iterator.Consumers.{sum_from_yields_List, fits_from_yields_list}
use Rattle.slot_laws.proofs.Fitting.{dropped-small}
use Rattle.machine.specs.Views.{tasks, view, viewed}
use Rattle.machine.proofs.Testing.{kept, soon}
use Rattle.machine.proofs.Walking.{sum_of}
use Rattle.machine.proofs.totals.dropped_units.Goals as goal

pub sum-requires-clause-fits : goal.sum-requires-clause-fits
unfolding view viewed
sum-requires-clause-fits c =
    let f = c.args.formed in
    fits_from_yields_list c.map.result _
    (YieldsList-from_map _ (λ x. x.0) (YieldsList-from_slice (take (tasks f.state.now) f.state.now.dropped) cc) c.map.ensures.closure (λ x r q k. search (rules, tests)))
    (omega (arith, sum_of (view f.state.now).dropped, dropped-small (kept f) (soon f)))

pub returns : goal.returns
unfolding view viewed
returns c =
    let s = c.args.formed.state.now in
    sum_from_yields_List c.map.result _ c.sum.ensures.ran
    (YieldsList-from_map _ (λ x. x.0) (YieldsList-from_slice (take (tasks s) s.dropped) cc) c.map.ensures.closure (λ x r q k. search (rules, tests)))
    ∙ sum_of (view s).dropped
