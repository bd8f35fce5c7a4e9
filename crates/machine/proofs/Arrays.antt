-- A struct that a function is handed has arrays of 64 entries.
use mathlib.Core.List.{List}
use mir.Val.{Val}
use denote.Laws.{Is}
use denote.Struct.Declared.{row}
use Rattle.machine.specs.declared.state.State.{State}
use Rattle.machine.specs.Full.{Full}
use Rattle.machine.specs.contracts.state.State as StateType

pub state_full : (s : State) (vs : List Val) → Is (row StateType.the_type) s vs → Full s
state_full s vs g =
    let fields = g.1.1 in
    record {
      rows = fields.0.1.1.1.1.0.1.0.1;
      ranks = fields.1.0.1.0.1;
      left = fields.1.1.1.0.1.0.1;
      last = fields.1.1.1.1.0.1.0.1;
      done = fields.1.1.1.1.1.0.1.0.1;
      dropped = fields.1.1.1.1.1.1.0.1.0.1;
    }
