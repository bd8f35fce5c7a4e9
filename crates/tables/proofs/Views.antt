-- The table that a struct says, and the struct that says it.
use Prim.Native.Nat.{ℕ, ◌-◌, ◌<◌, min}
use mathlib.Core.Path.{◌≡◌, refl, sym, ap, ◌∙◌}
use mathlib.Core.List.{List, [], ◌∷◌, ◌++◌, map}
use native.Mathlib.Omega.{arith}
use lib.ListN.{length, get_or, take, set, replicate, length-map, length-take, get_or-map}
use lib.Seq.{get_or-take, take_at}
use Rattle.std.proofs.lemmas.List.{take_min}
use mir.Val.{Val}
use denote.Laws.{Is}
use denote.Struct.Declared.{row}
use Rattle.laws.proofs.Fronts.{front_more}
use Rattle.rules.specs.Rows as Rows
use Rattle.rules.specs.Tables as Tables
use Rattle.tables.specs.Views.{pack_row, view_row, zero_row, pack_rows, pack, view, Formed}
use Rattle.tables.specs.declared.table.Row.{Row}
use Rattle.tables.specs.declared.table.Table.{Table}
use Rattle.tables.specs.contracts.table.Table as TableType

-- a struct that a function is handed has 64 rows
pub table_full : (t : Table) (vs : List Val) → Is (row TableType.the_type) t vs → length t.rows ≡ 64
table_full t vs owned = owned.1.1.1.1.0.1.0.1

-- how many rows count
pub length-view : (t : Table) → length t.rows ≡ 64 → length (view t).rows ≡ min t.n.0 64
unfolding view
length-view t e = length-map (take t.n.0 t.rows) view_row ∙ length-take t.n.0 t.rows ∙ rw e

-- and of a struct that a function is handed, as `rows_of` counts them
pub rows-counted : (t : Table) {vs : List Val} → Is (row TableType.the_type) t vs → {n : ℕ} → n ≡ min t.n.0 64 → n ≡ length (view t).rows
rows-counted t owned e = e ∙ sym (length-view t (table_full t _ owned))

-- where so many rows of it are lent, they are the table's
pub rows-lent : (t : Table) {vs : List Val} → Is (row TableType.the_type) t vs → {n : ℕ} → n ≡ min t.n.0 64 → map view_row (take n t.rows) ≡ (view t).rows
unfolding view
rows-lent t owned e = ap (map view_row) (rw (e, ← table_full t _ owned) (take_min t.n.0 t.rows))

-- each row that counts
pub row-view : (t : Table) (i : ℕ) → i < length (view t).rows → get_or (view t).rows i Tables.no_row ≡ view_row (get_or t.rows i zero_row)
unfolding view
row-view t i h =
    get_or-map view_row (take t.n.0 t.rows) i zero_row
    ∙ ap view_row (get_or-take t.n.0 t.rows i zero_row (omega (arith, length-map (take t.n.0 t.rows) view_row, length-take t.n.0 t.rows)))

-- one more row, where the next zero stood
pub pack_more : (done : List Rows.Row) (r : Row) (i : ℕ) → length done ≡ i → i < 64 → set (pack_rows done) i r ≡ pack_rows (done ++ (view_row r ∷ []))
unfolding pack_rows
pack_more done r i len l = front_more pack_row zero_row 64 done (view_row r) i len l

-- rows, packed and viewed
view-rows : (rows : List Rows.Row) → map view_row (map pack_row rows) ≡ rows
view-rows [] = refl
view-rows (r ∷ rows) = ap (λ (rs : List Rows.Row). r ∷ rs) (view-rows rows)

-- a struct that is made of a table says it
pub view-pack : (tbl : Tables.Table) → view (pack tbl) ≡ tbl
unfolding view pack pack_rows
view-pack tbl =
    let zeros : List Row = replicate (64 - Tables.size tbl) zero_row in
    rw (take_at (map pack_row tbl.rows) zeros (Tables.size tbl) (length-map tbl.rows pack_row), view-rows tbl.rows)

-- and it is well formed
pub packed-formed : (tbl : Tables.Table) → Formed (pack tbl)
packed-formed tbl = ap pack (view-pack tbl)
