-- A list whose tail was lent: what was lent, and the whole after the tail came back.
use Prim.Native.Nat.{ℕ, zero, suc, ◌-◌, ◌≤◌}
use mathlib.Core.Path.{◌≡◌, ◌∙◌}
use mathlib.Core.List.{List, [], ◌++◌, append-nil}
use native.Mathlib.Nat.{sub-zero, zero-sub, suc-sub-suc}
use native.Mathlib.Omega.{arith}
use borrow.Rule.Slice.PartMut.{mid_of, post_of, put_mid}
use lib.ListN.{length, take, drop, replicate, length-drop, drop_of_length-le}
use lib.Seq.{take_all}

module _ {A : Type 0} (l : List A) (a : ℕ) (inside : a ≤ length l) where
  -- the tail from a on
  pub tail_lent : mid_of a (length l - a) l ≡ drop a l
  tail_lent = take_all (length l - a) (drop a l) (omega (arith, length-drop a l))

  -- with another tail in its place
  pub tail_back : (t : List A) → put_mid a (length l - a) l t ≡ take a l ++ t
  tail_back t =
      let none : post_of a (length l - a) l ≡ [] = drop_of_length-le (drop a l) {i = length l - a} (omega (arith, length-drop a l)) in
      rw (none, append-nil)

-- the tail of a list of one value
pub drop-replicate : {A : Type 0} (n k : ℕ) (a : A) → drop n (replicate k a) ≡ replicate (k - n) a
drop-replicate zero k a = rw sub-zero
drop-replicate (suc n) zero a = rw zero-sub
drop-replicate (suc n) (suc k) a = drop-replicate n k a ∙ rw suc-sub-suc
