-- A row of a table, and when its jobs are released and due. A job's deadline is the release of the next one.
use Rattle.std.specs.Prelude.{ℕ, ◌+◌, ◌-◌, ◌*◌, ◌/◌, ◌%◌, Bool, eqb}

-- execution C in units, period T in slots
pub record Row : Type 0 where
  pub c : ℕ
  pub t : ℕ

-- t divides x
abbrev pub divides : ℕ → ℕ → Bool
divides t x = eqb (x % t) 0

-- in slot s a job is released
unfoldable pub releases : Row → ℕ → Bool
releases r s = divides r.t s

-- at boundary b, after the first slot, a job's deadline falls
unfoldable pub due : Row → ℕ → Bool
due r b = divides r.t b

-- the units that a job asks for
unfoldable pub demand : Row → ℕ
demand r = r.c

-- how many jobs are released before boundary b: the multiples of T from 0 below b
unfoldable pub releases_before : Row → ℕ → ℕ
releases_before r b = (b + (r.t - 1)) / r.t

-- the units released before boundary b
unfoldable pub released : Row → ℕ → ℕ
released r b = demand r * releases_before r b
