-- The setting of the theorem: tasks by rank, and a schedule of them. A task's rank is its place in the priority order,
-- from 0; the heavy tasks have the first ranks. Tests are numbers here, 0 or 1.
use Rattle.std.specs.Prelude.{ℕ, suc, ◌+◌, ◌-◌, ◌*◌, ◌≤◌, ◌<◌, min, ◌≡◌}
use Rattle.rules.specs.Counts.{sum_before}

-- One task with period T and demand C: its left work in each slot, after the releases, and the units that it is given
-- there. The slots of job a are a × T to a × T + (T - 1).
pub record Jobs (T C : ℕ) (ready runs : ℕ → ℕ) : Type 0 where
  pub released : (a : ℕ) → ready (a * T) ≡ C
  pub kept : (a e : ℕ) → suc e < T → ready (a * T + suc e) ≡ ready (a * T + e) - runs (a * T + e)
  pub modest : (s : ℕ) → runs s ≤ ready s

-- the tasks, with a common multiple of all periods and each task's share of so many slots
pub record Tasks : Type 0 where
  pub cores : ℕ
  pub heavies : ℕ
  pub lights : ℕ
  pub period : ℕ → ℕ
  pub demand : ℕ → ℕ
  pub repeat : ℕ
  pub share : ℕ → ℕ
  pub lasting : 0 < repeat
  pub timed : (k : ℕ) → k < heavies + lights → 0 < period k
  pub fitting : (k : ℕ) → k < heavies + lights → demand k ≤ period k
  pub even : (k : ℕ) → k < heavies + lights → share k * period k ≡ demand k * repeat

-- how many tasks there are
abbrev pub tasks : Tasks → ℕ
tasks x = x.heavies + x.lights

-- the rank of light task j, counted from 0
abbrev pub light_at : Tasks → ℕ → ℕ
light_at x j = x.heavies + j

-- 1 where there is left work
abbrev pub pending : ℕ → ℕ
pending left = min 1 left

-- a schedule that in each slot runs the first of the pending tasks, as many as there are cores
pub record Schedule (x : Tasks) : Type 0 where
  pub ready : ℕ → ℕ → ℕ
  pub runs : ℕ → ℕ → ℕ
  pub jobs : (k : ℕ) → k < tasks x → Jobs (x.period k) (x.demand k) (ready k) (runs k)
  pub chosen : (k s : ℕ) → k < tasks x
      → runs k s ≡ min (pending (ready k s)) (x.cores - sum_before k (λ i. pending (ready i s)))

-- the work given to the task of rank k in the slots before t
abbrev pub work : {x : Tasks} → Schedule x → ℕ → ℕ → ℕ
work c k t = sum_before t (c.runs k)

-- the work given to the first j light tasks in the slots before t, and their shares together
abbrev pub light_work : {x : Tasks} → Schedule x → ℕ → ℕ → ℕ
light_work {x} c j t = sum_before j (λ i. work c (light_at x i) t)

abbrev pub light_share : Tasks → ℕ → ℕ
light_share x j = sum_before j (λ i. x.share (light_at x i))

-- What the argument uses of admission, where heavy tasks always leave suc b cores over: A, B, and that the next release
-- of a light task, at or after one of a later light task, comes no more than g periods of the latter behind it.
-- The f of the argument is suc g.
pub record Conditions (x : Tasks) (b g : ℕ) : Type 0 where
  pub spare : x.cores ≡ x.heavies + suc b
  pub whole : (j : ℕ) → j < x.lights → light_share x x.lights + b * x.share (light_at x j) ≤ suc b * x.repeat
  pub others : (j : ℕ) → j < x.lights
      → suc g * light_share x x.lights + suc b * x.share (light_at x j) ≤ suc b * x.repeat + suc g * x.share (light_at x j)
  pub soon : (i j a : ℕ) → i < j → j < x.lights
      → (n : ℕ)
      × (a * x.period (light_at x j) ≤ n * x.period (light_at x i))
      × (n * x.period (light_at x i) ≤ (a + g) * x.period (light_at x j))
