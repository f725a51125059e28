-- Laws of the parts of a form that stands in the table: what its payload is, and where its place, its results and its pairs
-- stand. Assumes nothing.
use Rattle.std.specs.Prelude.{ℕ, suc, ◌+◌, ◌*◌, ◌≤◌, ◌<◌, ◌≡◌, refl, List, ◌++◌, length, drop, get_or}
use Rattle.std.proofs.Common.{sym, ◌∙◌, append_assoc, arith, length-append}
use Rattle.definitions.specs.Bytes.{Bytes}
use Rattle.definitions.specs.Value.{Value}
use Rattle.definitions.specs.Reader.{Place, Conversion, Test, Result, Pairs, no_pairs, pair}
use Rattle.laws.specs.FormGrammar.{pairs_forms}
use Rattle.nodes.specs.Nodes.{Refers}
use Rattle.forms.specs.Forms.{LiteralPayload, slot, PlaceRows, it_row, field_rows, FormRows, convert_rows, keep_rows, count_rows, each_rows}
use Rattle.forms.specs.Forms.{when_rows, choose_rows, literal_row, pack_rows, PairRows, no_pair_rows, pair_rows, PlaceStands, FormStands}
use Rattle.forms.specs.Forms.{PairsStand, size_at}
use Rattle.forms.specs.FormsLaws.{place_rows_grow, form_rows_grow, forms_some, length_place_rows, length_form_rows, length_pair_rows}
use Rattle.nodes.specs.NodesLaws.{get_or_row, drop_row}
use Rattle.forms.specs.FormsLaws.{behind, place_stands_size, stands_size}

-- the row behind the form at a row
abbrev pub after : List ℕ → ℕ → ℕ
after t row = row + size_at t row

-- ---- a larger pool

pub place_stands_grow
    : {t p : List ℕ} {row d : ℕ} {a : Place} (q : List ℕ) → PlaceStands t p row d a → PlaceStands t (p ++ q) row d a
place_stands_grow q s = record { rows = s.rows; rest = s.rest; encoded = place_rows_grow q s.encoded; placed = s.placed }

pub stands_grow
    : {t p : List ℕ} {row d m : ℕ} {r : Result} (q : List ℕ) → FormStands t p row d m r → FormStands t (p ++ q) row d m r
stands_grow q s = record { rows = s.rows; rest = s.rest; encoded = form_rows_grow q s.encoded; placed = s.placed }

-- ---- places

module _ {t p : List ℕ} {row d at n : ℕ} (s : PlaceStands t p row d (Place.it at n)) where
  pub it_slot : (get_or t (row + 1) 0 ≡ slot d n) × (n < d)
  it_slot = go s.encoded s.placed
    where
      go : {rs : List ℕ} → PlaceRows p d (Place.it at n) rs → drop row t ≡ rs ++ s.rest → (get_or t (row + 1) 0 ≡ slot d n) × (n < d)
      go (it_row h l) e = (get_or_row t row 1 e, l)

-- what stands behind the row of a `field`
record FieldParts (t p : List ℕ) (row d : ℕ) (n : Bytes) (q : Place) : Type 0 where
  name : Refers p n (get_or t (row + 1) 0)
  place : PlaceStands t p (row + 3) d q

module _ {t p : List ℕ} {row d at : ℕ} {n : Bytes} {q : Place} (s : PlaceStands t p row d (Place.field at n q)) where
  field_parts : FieldParts t p row d n q
  field_parts = go s.encoded s.placed
    where
      go : {rs : List ℕ} → PlaceRows p d (Place.field at n q) rs → drop row t ≡ rs ++ s.rest → FieldParts t p row d n q
      go (field_rows {rs} h f is) e =
          record {
            name = rw (get_or_row t row 1 e) f;
            place = record { rows = rs; rest = s.rest; encoded = is; placed = drop_row t row 3 e };
          }

  pub field_name : Refers p n (get_or t (row + 1) 0)
  field_name = field_parts.name

  pub field_place : PlaceStands t p (row + 3) d q
  field_place = field_parts.place

-- ---- results with a place alone

module _ {t p : List ℕ} {row d m at : ℕ} {q : Place} where
  pub convert_place : {c : Conversion} → FormStands t p row d m (Result.convert at c q) → PlaceStands t p (row + 3) d q
  convert_place {c} s = go s.encoded s.placed
    where
      go : {rs : List ℕ} → FormRows p d m (Result.convert at c q) rs → drop row t ≡ rs ++ s.rest → PlaceStands t p (row + 3) d q
      go (convert_rows {rs} h is) e = record { rows = rs; rest = s.rest; encoded = is; placed = drop_row t row 3 e }

  pub keep_place : FormStands t p row d m (Result.keep at q) → PlaceStands t p (row + 3) d q
  keep_place s = go s.encoded s.placed
    where
      go : {rs : List ℕ} → FormRows p d m (Result.keep at q) rs → drop row t ≡ rs ++ s.rest → PlaceStands t p (row + 3) d q
      go (keep_rows {rs} h is) e = record { rows = rs; rest = s.rest; encoded = is; placed = drop_row t row 3 e }

  pub count_place : FormStands t p row d m (Result.count at q) → PlaceStands t p (row + 3) d q
  count_place s = go s.encoded s.placed
    where
      go : {rs : List ℕ} → FormRows p d m (Result.count at q) rs → drop row t ≡ rs ++ s.rest → PlaceStands t p (row + 3) d q
      go (count_rows {rs} h is) e = record { rows = rs; rest = s.rest; encoded = is; placed = drop_row t row 3 e }

-- ---- results with results

-- a place stands at a row and other rows behind it, then those of a result
place_then
    : {t p : List ℕ} {row d : ℕ} {q : Place} {rs : List ℕ} (qs : List ℕ) → PlaceRows p d q rs → drop row t ≡ rs ++ qs
    → PlaceStands t p row d q × (drop (after t row) t ≡ qs)
place_then {t} {p} {row} {d} {q} {rs} qs is e =
    let s : PlaceStands t p row d q = record { rows = rs; rest = qs; encoded = is; placed = e } in
    (s, behind t row rs qs e (length_place_rows is ∙ sym (place_stands_size s)))

result_then
    : {t p : List ℕ} {row d m : ℕ} {r : Result} {rs : List ℕ} (qs : List ℕ) → FormRows p d m r rs → drop row t ≡ rs ++ qs
    → FormStands t p row d m r × (drop (after t row) t ≡ qs)
result_then {t} {p} {row} {d} {m} {r} {rs} qs is e =
    let s : FormStands t p row d m r = record { rows = rs; rest = qs; encoded = is; placed = e } in
    (s, behind t row rs qs e (length_form_rows is ∙ sym (stands_size s)))

record EachParts (t p : List ℕ) (row d : ℕ) (q : Place) (r : Result) : Type 0 where
  place : PlaceStands t p (row + 3) d q
  result : FormStands t p (after t (row + 3)) (suc d) 0 r

module _ {t p : List ℕ} {row d m at : ℕ} {q : Place} {r : Result} (s : FormStands t p row d m (Result.each at q r)) where
  each_parts : EachParts t p row d q r
  each_parts = go s.encoded s.placed
    where
      go : {rs : List ℕ} → FormRows p d m (Result.each at q r) rs → drop row t ≡ rs ++ s.rest → EachParts t p row d q r
      go (each_rows {rs} {qs} h is js) e =
          let a = place_then (qs ++ s.rest) is (drop_row t row 3 e ∙ append_assoc rs qs s.rest) in
          record { place = a.0; result = (result_then s.rest js a.1).0 }

  pub each_place : PlaceStands t p (row + 3) d q
  each_place = each_parts.place

  pub each_result : FormStands t p (after t (row + 3)) (suc d) 0 r
  each_result = each_parts.result

record WhenParts (t p : List ℕ) (row d : ℕ) (q : Place) (r₁ r₂ : Result) : Type 0 where
  place : PlaceStands t p (row + 3) d q
  first : FormStands t p (after t (row + 3)) (suc d) 0 r₁
  second : FormStands t p (after t (after t (row + 3))) (suc d) 0 r₂

-- three parts one behind the other
three : (rs qs ts us : List ℕ) → (rs ++ (qs ++ ts)) ++ us ≡ rs ++ (qs ++ (ts ++ us))
three rs qs ts us = simp append_assoc

module _
    {t p : List ℕ} {row d m at : ℕ} {k : Test} {q : Place} {r₁ r₂ : Result} (s : FormStands t p row d m (Result.when at k q r₁ r₂)) where
  when_parts : WhenParts t p row d q r₁ r₂
  when_parts = go s.encoded s.placed
    where
      go : {rs : List ℕ} → FormRows p d m (Result.when at k q r₁ r₂) rs → drop row t ≡ rs ++ s.rest → WhenParts t p row d q r₁ r₂
      go (when_rows {rs} {qs} {ts} h is js ks) e =
          let a = place_then (qs ++ (ts ++ s.rest)) is (drop_row t row 3 e ∙ three rs qs ts s.rest) in
          let b = result_then (ts ++ s.rest) js a.1 in
          record { place = a.0; first = b.0; second = (result_then s.rest ks b.1).0 }

  pub when_place : PlaceStands t p (row + 3) d q
  when_place = when_parts.place

  pub when_first : FormStands t p (after t (row + 3)) (suc d) 0 r₁
  when_first = when_parts.first

  pub when_second : FormStands t p (after t (after t (row + 3))) (suc d) 0 r₂
  when_second = when_parts.second

record ChooseParts (t p : List ℕ) (row d : ℕ) (r₁ r₂ r₃ : Result) : Type 0 where
  first : FormStands t p (row + 3) d 0 r₁
  second : FormStands t p (after t (row + 3)) d 0 r₂
  third : FormStands t p (after t (after t (row + 3))) d 0 r₃

module _ {t p : List ℕ} {row d m at : ℕ} {r₁ r₂ r₃ : Result} (s : FormStands t p row d m (Result.choose at r₁ r₂ r₃)) where
  choose_parts : ChooseParts t p row d r₁ r₂ r₃
  choose_parts = go s.encoded s.placed
    where
      go : {rs : List ℕ} → FormRows p d m (Result.choose at r₁ r₂ r₃) rs → drop row t ≡ rs ++ s.rest → ChooseParts t p row d r₁ r₂ r₃
      go (choose_rows {rs} {qs} {ts} h is js ks) e =
          let a = result_then (qs ++ (ts ++ s.rest)) is (drop_row t row 3 e ∙ three rs qs ts s.rest) in
          let b = result_then (ts ++ s.rest) js a.1 in
          record { first = a.0; second = b.0; third = (result_then s.rest ks b.1).0 }

  pub choose_first : FormStands t p (row + 3) d 0 r₁
  choose_first = choose_parts.first

  pub choose_second : FormStands t p (after t (row + 3)) d 0 r₂
  choose_second = choose_parts.second

  pub choose_third : FormStands t p (after t (after t (row + 3))) d 0 r₃
  choose_third = choose_parts.third

-- ---- literals

module _ {t p : List ℕ} {row d m at : ℕ} {v : Value} (s : FormStands t p row d m (Result.literal at v)) where
  pub literal_stands : LiteralPayload p v (get_or t (row + 1) 0)
  literal_stands = go s.encoded s.placed
    where
      go : {rs : List ℕ} → FormRows p d m (Result.literal at v) rs → drop row t ≡ rs ++ s.rest → LiteralPayload p v (get_or t (row + 1) 0)
      go (literal_row h k) e = rw (get_or_row t row 1 e) k

-- ---- packs

pub pack_stands
    : {t p : List ℕ} {row d m at : ℕ} {ps : Pairs} → FormStands t p row d m (Result.pack at ps)
    → PairsStand t p (row + 3) (after t row) d ps
pack_stands {t} {p} {row} {d} {m} {at} {ps} s = go s.encoded s.placed
  where
    go : {rs : List ℕ} → FormRows p d m (Result.pack at ps) rs → drop row t ≡ rs ++ s.rest → PairsStand t p (row + 3) (after t row) d ps
    go (pack_rows {rs} h is) e =
        record {
          rows = rs;
          rest = s.rest;
          encoded = is;
          placed = drop_row t row 3 e;
          reaches = omega (arith, stands_size s, length_form_rows (pack_rows {m = m} h is));
        }

-- the first of a pack's pairs and those behind it
pub record FirstPair (t p : List ℕ) (row end d : ℕ) (ps : Pairs) : Type 0 where
  pub name : Bytes
  pub word : ℕ
  pub result : Result
  pub others : Pairs
  pub same : ps ≡ pair name result others
  pub refers : Refers p name word
  pub stands : FormStands t p row d word result
  pub more : PairsStand t p (after t row) end d others

module _ {t p : List ℕ} {row end d : ℕ} {ps : Pairs} (s : PairsStand t p row end d ps) where
  pub first_pair : row < end → FirstPair t p row end d ps
  first_pair left = go s.encoded s.placed s.reaches
    where
      go : {os : Pairs} {rs : List ℕ} → PairRows p d os rs → drop row t ≡ rs ++ s.rest → row + length rs ≡ end → FirstPair t p row end d os
      go no_pair_rows e l = absurd (let z : ⊥ = omega arith in z)
      go (pair_rows {k} {n} {r} {ps = os} {rs} {qs} f is js) e l =
          let a = result_then (qs ++ s.rest) is (e ∙ append_assoc rs qs s.rest) in
          record {
            name = n;
            word = k;
            result = r;
            others = os;
            same = refl;
            refers = f;
            stands = a.0;
            more =
                record {
                  rows = qs;
                  rest = s.rest;
                  encoded = js;
                  placed = a.1;
                  reaches = omega (arith, length-append rs qs, length_form_rows is, stands_size a.0);
                };
          }

  pub no_pair_left : end ≤ row → ps ≡ no_pairs
  no_pair_left past = go s.encoded s.reaches
    where
      go : {os : Pairs} {rs : List ℕ} → PairRows p d os rs → row + length rs ≡ end → os ≡ no_pairs
      go no_pair_rows l = refl
      go (pair_rows {r} {rs} {qs} f is js) l =
          absurd (let z : ⊥ = omega (arith, length-append rs qs, length_form_rows is, forms_some r) in z)

  pub pairs_end : row + 3 * pairs_forms ps ≡ end
  pairs_end = omega (arith, length_pair_rows s.encoded, s.reaches)
