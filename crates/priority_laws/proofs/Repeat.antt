-- The repeat length is the least common multiple of all periods, and each row fits into it a whole number of times.
use Prim.Native.Nat.{ℕ, zero, suc, ◌+◌, ◌*◌, ◌/◌, ◌%◌, ◌≤◌, ◌<◌, ◌∣◌, zero-le}
use mathlib.Core.Path.{◌≡◌, sym, ap, ◌∙◌}
use mathlib.Core.Logic.{⊎_elim}
use mathlib.Core.List.{List, [], ◌∷◌, ◌++◌}
use native.Mathlib.Nat.{mul-one, mul-pos, mod-lt, mul-mod_left, div-add-mod, dvd_refl, dvd_trans, dvd-mul_right, dvd-mul_right_of_dvd, dvd-add_iff_right, dvd_of_mod-eq-zero, mod-eq-zero_of_dvd, mul-div_cancel', div-mul_cancel, mul-dvd-mul_left, le_of_dvd, one-dvd, eq-one_of_dvd-one, dvd_of_mul-dvd-mul_left, eq_of_mul-eq-mul_left, eq-or-lt_of_le}
use native.Mathlib.Omega.{arith}
use lib.ListN.{length, get_or}
use borrow.Author.Tests.{eq-eqb, eqb-true, eqb-false}
use Rattle.laws.specs.Lists.{least, foldl}
use Rattle.laws.proofs.Least.{least-low, least_first, least-passes}
use Rattle.rules.specs.Rows.{Row, divides}
use Rattle.rules.specs.Repeat.{lcm, repeat_length}
use Rattle.rules.specs.Tables.{Table, size, row_of, no_row}
use Rattle.rules.specs.Verdicts.{share}

-- ---- the least common multiple of two numbers

-- the factor that takes h to it
abbrev factor : ℕ → ℕ → ℕ
factor h t = least 1 t (λ k. divides t (h * k))

-- it is a multiple of h
pub lcm-left : (h t : ℕ) → h ∣ lcm h t
unfolding lcm
lcm-left h t = dvd-mul_right h (factor h t)

factor_pos : (h t : ℕ) → 0 < factor h t
factor_pos h t = least-low (λ k. divides t (h * k)) 1 t

-- it is positive if h is
pub lcm_pos : (h t : ℕ) → 0 < h → 0 < lcm h t
unfolding lcm
lcm_pos h t hp = mul-pos hp (factor_pos h t)

-- where t divides h * k and h * j, it divides h times the rest of j by k
divides-rest : (t h k j : ℕ) → t ∣ h * k → t ∣ h * j → t ∣ h * (j % k)
divides-rest t h k j dk dj =
    let whole : h * k * (j / k) + h * (j % k) ≡ h * j = omega (arith, ap (λ (z : ℕ). h * z) (div-add-mod j k)) in
    (dvd-add_iff_right t (dvd-mul_right_of_dvd t dk (j / k))).1 (rw whole dj)

-- with h = g * p and t = g * q for the greatest common divisor g, a common multiple of h and t goes into h * q = t * p only once
once_only : (h t g p q l a b d : ℕ) → 0 < h → 0 < t → 0 < g → g * p ≡ h → g * q ≡ t → ((c : ℕ) → c ∣ h → c ∣ t → c ∣ g)
    → h * a ≡ l → t * b ≡ l → l * d ≡ h * q → l * d ≡ t * p → d ≡ 1
once_only h t g p q l a b d hp tp gp hg tg greatest ha tb eh et =
    let ad : a * d ≡ q = eq_of_mul-eq-mul_left h hp (a * d) q (omega (arith, ap (λ (z : ℕ). z * d) ha)) in
    let bd : b * d ≡ p = eq_of_mul-eq-mul_left t tp (b * d) p (omega (arith, ap (λ (z : ℕ). z * d) tb)) in
    let in_h : g * d * b ≡ h = omega (arith, ap (λ (z : ℕ). g * z) bd) in
    let in_t : g * d * a ≡ t = omega (arith, ap (λ (z : ℕ). g * z) ad) in
    let in_g : g * d ∣ g = greatest (g * d) (rw (← in_h) (dvd-mul_right (g * d) b)) (rw (← in_t) (dvd-mul_right (g * d) a)) in
    eq-one_of_dvd-one (dvd_of_mul-dvd-mul_left d gp (rw (mul-one g) in_g))

module _ (h t : ℕ) (tp : 0 < t) where
  -- it is a multiple of t
  pub lcm-right : t ∣ lcm h t
  unfolding lcm
  lcm-right =
      dvd_of_mod-eq-zero t
      (eqb-true (lcm h t % t) 0 (least-passes (λ k. divides t (h * k)) 1 t t tp (omega arith) (eq-eqb (h * t % t) 0 (mul-mod_left h t))))

  -- no smaller factor takes h to a multiple of t, so none that does leaves a rest by it
  no_less : (j : ℕ) → 0 < j → j < factor h t → t ∣ h * j → ⊥
  no_less j low high d = eqb-false (h * j % t) 0 (least_first (λ k. divides t (h * k)) 1 t j low high) (mod-eq-zero_of_dvd t d)

  no_rest : (j : ℕ) → t ∣ h * j → j % factor h t ≡ 0
  unfolding lcm
  no_rest j d =
      ⊎_elim sym
      (λ l. absurd (no_less (j % factor h t) l (mod-lt j (factor_pos h t)) (divides-rest t h (factor h t) j lcm-right d)))
      (eq-or-lt_of_le zero-le)

  -- every common multiple of h and t is a multiple of it
  pub lcm-least : (x : ℕ) → h ∣ x → t ∣ x → lcm h t ∣ x
  unfolding lcm
  lcm-least x hx tx =
      let back : h * (x / h) ≡ x = mul-div_cancel' h hx in
      rw (← back) (mul-dvd-mul_left (factor h t) h (dvd_of_mod-eq-zero (factor h t) (no_rest (x / h) (rw back tx))))

  -- by the greatest common divisor: h times what is left of t without it
  pub lcm_by_gcd : (g : ℕ) → 0 < h → 0 < g → g ∣ h → g ∣ t → ((c : ℕ) → c ∣ h → c ∣ t → c ∣ g) → lcm h t ≡ h * (t / g)
  lcm_by_gcd g hp gp gh gt greatest =
      let p : ℕ = h / g in
      let q : ℕ = t / g in
      let l : ℕ = lcm h t in
      let hg : g * p ≡ h = mul-div_cancel' g gh in
      let tg : g * q ≡ t = mul-div_cancel' g gt in
      let crossed : t * p ≡ h * q = omega (arith, ap (λ (z : ℕ). z * p) tg, ap (λ (z : ℕ). z * q) hg) in
      let whole : l * (h * q / l) ≡ h * q = mul-div_cancel' l (lcm-least (h * q) (dvd-mul_right h q) (rw (← crossed) (dvd-mul_right t p))) in
      let ha : h * (l / h) ≡ l = mul-div_cancel' h (lcm-left h t) in
      let tb : t * (l / t) ≡ l = mul-div_cancel' t lcm-right in
      let once : h * q / l ≡ 1 = once_only h t g p q l (l / h) (l / t) (h * q / l) hp tp gp hg tg greatest ha tb whole (whole ∙ sym crossed) in
      sym (mul-one l) ∙ ap (λ (z : ℕ). l * z) (sym once) ∙ whole

-- ---- the least common multiple of all periods, row by row

-- going on from h
abbrev go_on : ℕ → List Row → ℕ
go_on h rows = foldl (λ l r. lcm l r.t) h rows

go_on_left : (h : ℕ) (rows : List Row) → h ∣ go_on h rows
go_on_left h [] = dvd_refl h
go_on_left h (r ∷ rows) = dvd_trans h (lcm-left h r.t) (go_on_left (lcm h r.t) rows)

go_on_pos : (h : ℕ) (rows : List Row) → 0 < h → 0 < go_on h rows
go_on_pos h [] hp = hp
go_on_pos h (r ∷ rows) hp = go_on_pos (lcm h r.t) rows (lcm_pos h r.t hp)

go_on_prefix : (h : ℕ) (xs ys : List Row) → go_on h xs ∣ go_on h (xs ++ ys)
go_on_prefix h [] ys = go_on_left h ys
go_on_prefix h (x ∷ xs) ys = go_on_prefix (lcm h x.t) xs ys

-- something holds of every period
abbrev EachPeriod : (ℕ → Type 0) → List Row → Type 0
EachPeriod P rows = (i : ℕ) → i < length rows → P (get_or rows i no_row).t

rest : (P : ℕ → Type 0) (r : Row) (rows : List Row) → EachPeriod P (r ∷ rows) → EachPeriod P rows
rest P r rows h i l = h (suc i) (omega arith)

go_on_right : (h : ℕ) (rows : List Row) → EachPeriod (λ t. 0 < t) rows → EachPeriod (λ t. t ∣ go_on h rows) rows
go_on_right h [] ps i l = absurd (omega arith)
go_on_right h (r ∷ rows) ps zero l = dvd_trans r.t (lcm-right h r.t (ps 0 l)) (go_on_left (lcm h r.t) rows)
go_on_right h (r ∷ rows) ps (suc i) l = go_on_right (lcm h r.t) rows (rest (λ t. 0 < t) r rows ps) i (omega arith)

go_on_least : (h : ℕ) (rows : List Row) → EachPeriod (λ t. 0 < t) rows → (x : ℕ) → h ∣ x → EachPeriod (λ t. t ∣ x) rows → go_on h rows ∣ x
go_on_least h [] ps x hx ds = hx
go_on_least h (r ∷ rows) ps x hx ds =
    go_on_least (lcm h r.t) rows (rest (λ t. 0 < t) r rows ps) x
    (lcm-least h r.t (ps 0 (omega arith)) x hx (ds 0 (omega arith)))
    (rest (λ t. t ∣ x) r rows ds)

-- ---- the repeat length

-- it is positive
pub repeat_pos : (rows : List Row) → 0 < repeat_length rows
unfolding repeat_length
repeat_pos rows = go_on_pos 1 rows (omega arith)

-- that of the first rows divides that of all
pub repeat_prefix : (xs ys : List Row) → repeat_length xs ∣ repeat_length (xs ++ ys)
unfolding repeat_length
repeat_prefix xs ys = go_on_prefix 1 xs ys

-- so where the first rows pass a bound, all of them do
pub repeat_prefix_le : (xs ys : List Row) → repeat_length xs ≤ repeat_length (xs ++ ys)
repeat_prefix_le xs ys = le_of_dvd (repeat_pos (xs ++ ys)) (repeat_prefix xs ys)

-- the same for a value reached on the way
pub repeat-reached-le : (h : ℕ) (rows : List Row) → 0 < h → h ≤ foldl (λ l r. lcm l r.t) h rows
repeat-reached-le h rows hp = le_of_dvd (go_on_pos h rows hp) (go_on_left h rows)

-- a row's share of h slots is exact where its period divides h
pub share_exact : (h : ℕ) (r : Row) → r.t ∣ h → share h r * r.t ≡ r.c * h
unfolding share
share_exact h r d = omega (arith, ap (λ (z : ℕ). r.c * z) (div-mul_cancel r.t d))

-- no task has period 0
abbrev pub Periodic : Table → Type 0
Periodic tbl = (i : ℕ) → 1 ≤ i → i ≤ size tbl → 1 ≤ (row_of tbl i).t

module _ (tbl : Table) (periodic : Periodic tbl) where
  positive : EachPeriod (λ t. 0 < t) tbl.rows
  positive i l = periodic (suc i) (omega arith) l

  -- every period divides the repeat length
  pub repeat-period : (i : ℕ) → 1 ≤ i → i ≤ size tbl → (row_of tbl i).t ∣ repeat_length tbl.rows
  unfolding repeat_length
  repeat-period zero low high = absurd (omega arith)
  repeat-period (suc i) low high = go_on_right 1 tbl.rows positive i high

  -- and it divides every number that all periods divide
  pub repeat-least : (x : ℕ) → ((i : ℕ) → 1 ≤ i → i ≤ size tbl → (row_of tbl i).t ∣ x) → repeat_length tbl.rows ∣ x
  unfolding repeat_length
  repeat-least x ds = go_on_least 1 tbl.rows positive x (one-dvd x) (λ i l. ds (suc i) (omega arith) l)

  -- a task's periods fill the repeat length
  pub repeat-filled : (i : ℕ) → 1 ≤ i → i ≤ size tbl → repeat_length tbl.rows / (row_of tbl i).t * (row_of tbl i).t ≡ repeat_length tbl.rows
  repeat-filled i low high = div-mul_cancel (row_of tbl i).t (repeat-period i low high)

  -- a task's share of it is exact
  pub repeat-share : (i : ℕ) → 1 ≤ i → i ≤ size tbl → share (repeat_length tbl.rows) (row_of tbl i) * (row_of tbl i).t ≡ (row_of tbl i).c * repeat_length tbl.rows
  repeat-share i low high = share_exact (repeat_length tbl.rows) (row_of tbl i) (repeat-period i low high)
