-- `cases::show_order` meets its contract: at most 64 numbers fit the buffer.
use native.Mathlib.Omega.{arith}
use lib.ListN.{length-take}
use Rattle.cases.proofs.show_order.Goals as goal

pub write_order-requires : goal.write_order-requires
write_order-requires c = omega (arith, length-take c.rows_of-n.result c.plain-ranks.result)
