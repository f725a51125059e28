-- Laws of the forms table, in the order of its definitions. Assumes nothing.
use Rattle.std.specs.Prelude.{ℕ, ◌+◌, ◌*◌, ◌/◌, ◌%◌, ◌≤◌, ◌<◌, ◌≡◌, refl, true, false, List, [], ◌∷◌, ◌++◌, length, drop, get_or}
use Rattle.std.proofs.Common.{sym, ◌∙◌, add-zero, arith, length-append, length-drop, drop_at}
use Rattle.std.proofs.Math.Path.{ap}
use Rattle.definitions.specs.Value.{Value}
use Rattle.definitions.specs.Reader.{Place, Conversion, Test, to_int, to_dec, to_bool, to_text, Result, Pairs, no_pairs, pair}
use Rattle.laws.specs.FormGrammar.{place_forms, result_forms, pairs_forms, result_levels}
use Rattle.nodes.specs.NodesLaws.{refers_grow, get_or_row, drop_row}
use Rattle.forms.specs.Forms.{place_code, place_at, test_code, conversion_code, literal_code}
use Rattle.forms.specs.Forms.{form_code, form_operand, form_at, Head, FormHead, PlaceHead}
use Rattle.forms.specs.Forms.{LiteralPayload, null_payload, yes_payload, no_payload, number_payload, text_payload, slot, PlaceRows, it_row}
use Rattle.forms.specs.Forms.{field_rows, FormRows, convert_rows, keep_rows, count_rows, each_rows, when_rows, choose_rows, literal_row}
use Rattle.forms.specs.Forms.{pack_rows, PairRows, no_pair_rows, pair_rows, PlaceStands, FormStands, size_at}

-- ---- the first word

pub place_code_lt : (q : Place) → place_code q < 32
unfolding place_code
place_code_lt (Place.it at n) = omega arith
place_code_lt (Place.field at n q) = omega arith

conversion_code_lt : (c : Conversion) → conversion_code c < 32
unfolding conversion_code
conversion_code_lt to_int = omega arith
conversion_code_lt to_dec = omega arith
conversion_code_lt to_bool = omega arith
conversion_code_lt to_text = omega arith

literal_code_lt : (v : Value) → literal_code v < 32
unfolding literal_code
literal_code_lt Value.null = omega arith
literal_code_lt (Value.bool true) = omega arith
literal_code_lt (Value.bool false) = omega arith
literal_code_lt (Value.number x) = omega arith
literal_code_lt (Value.text t) = omega arith
literal_code_lt (Value.list vs) = omega arith
literal_code_lt (Value.rec ms) = omega arith

pub form_code_lt : (r : Result) → form_code r < 32
unfolding form_code
form_code_lt (Result.convert at c q) = conversion_code_lt c
form_code_lt (Result.keep at q) = omega arith
form_code_lt (Result.count at q) = omega arith
form_code_lt (Result.each at q r) = omega arith
form_code_lt (Result.when at k q r₁ r₂) = omega arith
form_code_lt (Result.choose at r₁ r₂ r₃) = omega arith
form_code_lt (Result.literal at v) = literal_code_lt v
form_code_lt (Result.pack at ps) = omega arith

-- the test `int` by its code
pub test_int : (k : Test) → test_code k ≡ 2 → k ≡ Test.int
unfolding test_code
test_int Test.null e = absurd (let z : ⊥ = omega (arith, e) in z)
test_int Test.bool e = absurd (let z : ⊥ = omega (arith, e) in z)
test_int Test.int e = refl
test_int Test.num e = absurd (let z : ⊥ = omega (arith, e) in z)
test_int Test.text e = absurd (let z : ⊥ = omega (arith, e) in z)
test_int Test.list e = absurd (let z : ⊥ = omega (arith, e) in z)
test_int Test.rec e = absurd (let z : ⊥ = omega (arith, e) in z)

module _ {code operand at size h : ℕ} (x : Head code operand at size h) (small : code < 32) where
  pub head_code : h % 32 ≡ code
  head_code = omega (arith, x.word, x.short, x.near)

  pub head_operand : h / 32 % 64 ≡ operand
  head_operand = omega (arith, x.word, x.short, x.near)

  pub head_at : h / 2048 % 65536 ≡ at
  head_at = omega (arith, x.word, x.short, x.near)

  pub head_size : h / 134217728 ≡ size
  head_size = omega (arith, x.word, x.short, x.near)

-- ---- a pool that grows

pub literal_payload_grow : {p : List ℕ} {v : Value} {k : ℕ} (q : List ℕ) → LiteralPayload p v k → LiteralPayload (p ++ q) v k
literal_payload_grow q null_payload = null_payload
literal_payload_grow q yes_payload = yes_payload
literal_payload_grow q no_payload = no_payload
literal_payload_grow q number_payload = number_payload
literal_payload_grow q (text_payload f) = text_payload (refers_grow q f)

place_rows_grow_at : (a : Place) {p : List ℕ} {d : ℕ} {rs : List ℕ} (q : List ℕ) → PlaceRows p d a rs → PlaceRows (p ++ q) d a rs
place_rows_grow_at (Place.it at n) q (it_row h l) = it_row h l
place_rows_grow_at (Place.field at n a) q (field_rows h f rs) = field_rows h (refers_grow q f) (place_rows_grow_at a q rs)

pub place_rows_grow : {p : List ℕ} {d : ℕ} {a : Place} {rs : List ℕ} (q : List ℕ) → PlaceRows p d a rs → PlaceRows (p ++ q) d a rs
place_rows_grow {a} q rs = place_rows_grow_at a q rs

mutual
  form_rows_grow_at
      : (r : Result) {p : List ℕ} {d m : ℕ} {rs : List ℕ} (q : List ℕ) → FormRows p d m r rs → FormRows (p ++ q) d m r rs
  form_rows_grow_at (Result.convert at c a) q (convert_rows h rs) = convert_rows h (place_rows_grow q rs)
  form_rows_grow_at (Result.keep at a) q (keep_rows h rs) = keep_rows h (place_rows_grow q rs)
  form_rows_grow_at (Result.count at a) q (count_rows h rs) = count_rows h (place_rows_grow q rs)
  form_rows_grow_at (Result.each at a r) q (each_rows h rs qs) = each_rows h (place_rows_grow q rs) (form_rows_grow_at r q qs)
  form_rows_grow_at (Result.when at k a r₁ r₂) q (when_rows h rs qs ts) =
      when_rows h (place_rows_grow q rs) (form_rows_grow_at r₁ q qs) (form_rows_grow_at r₂ q ts)
  form_rows_grow_at (Result.choose at r₁ r₂ r₃) q (choose_rows h rs qs ts) =
      choose_rows h (form_rows_grow_at r₁ q rs) (form_rows_grow_at r₂ q qs) (form_rows_grow_at r₃ q ts)
  form_rows_grow_at (Result.literal at v) q (literal_row h k) = literal_row h (literal_payload_grow q k)
  form_rows_grow_at (Result.pack at ps) q (pack_rows h rs) = pack_rows h (pair_rows_grow_at ps q rs)

  pair_rows_grow_at
      : (ps : Pairs) {p : List ℕ} {d : ℕ} {rs : List ℕ} (q : List ℕ) → PairRows p d ps rs → PairRows (p ++ q) d ps rs
  pair_rows_grow_at no_pairs q no_pair_rows = no_pair_rows
  pair_rows_grow_at (pair n r ps) q (pair_rows f rs qs) =
      pair_rows (refers_grow q f) (form_rows_grow_at r q rs) (pair_rows_grow_at ps q qs)

pub form_rows_grow
    : {p : List ℕ} {d m : ℕ} {r : Result} {rs : List ℕ} (q : List ℕ) → FormRows p d m r rs → FormRows (p ++ q) d m r rs
form_rows_grow {r} q rs = form_rows_grow_at r q rs

pub pair_rows_grow
    : {p : List ℕ} {d : ℕ} {ps : Pairs} {rs : List ℕ} (q : List ℕ) → PairRows p d ps rs → PairRows (p ++ q) d ps rs
pair_rows_grow {ps} q rs = pair_rows_grow_at ps q rs

-- ---- how many words

pub place_forms_some : (q : Place) → 1 ≤ place_forms q
unfolding place_forms
place_forms_some (Place.it at n) = omega arith
place_forms_some (Place.field at n q) = omega arith

pub forms_some : (r : Result) → 1 ≤ result_forms r
unfolding result_forms
forms_some (Result.convert at c q) = omega arith
forms_some (Result.keep at q) = omega arith
forms_some (Result.count at q) = omega arith
forms_some (Result.each at q r) = omega arith
forms_some (Result.when at k q r₁ r₂) = omega arith
forms_some (Result.choose at r₁ r₂ r₃) = omega arith
forms_some (Result.literal at v) = omega arith
forms_some (Result.pack at ps) = omega arith

pub levels_some : (r : Result) → 1 ≤ result_levels r
unfolding result_levels
levels_some (Result.convert at c q) = omega arith
levels_some (Result.keep at q) = omega arith
levels_some (Result.count at q) = omega arith
levels_some (Result.each at q r) = omega arith
levels_some (Result.when at k q r₁ r₂) = omega arith
levels_some (Result.choose at r₁ r₂ r₃) = omega arith
levels_some (Result.literal at v) = omega arith
levels_some (Result.pack at ps) = omega arith

length_place_rows_at : (q : Place) {p : List ℕ} {d : ℕ} {rs : List ℕ} → PlaceRows p d q rs → length rs ≡ 3 * place_forms q
unfolding place_forms
length_place_rows_at (Place.it at n) (it_row h l) = refl
length_place_rows_at (Place.field at n q) (field_rows h f rs) = omega (arith, length_place_rows_at q rs)

pub length_place_rows : {p : List ℕ} {d : ℕ} {q : Place} {rs : List ℕ} → PlaceRows p d q rs → length rs ≡ 3 * place_forms q
length_place_rows {q} rs = length_place_rows_at q rs

mutual
  unfolding result_forms

  length_form_rows_at : (r : Result) {p : List ℕ} {d m : ℕ} {rs : List ℕ} → FormRows p d m r rs → length rs ≡ 3 * result_forms r
  length_form_rows_at (Result.convert at c q) (convert_rows h rs) = omega (arith, length_place_rows rs)
  length_form_rows_at (Result.keep at q) (keep_rows h rs) = omega (arith, length_place_rows rs)
  length_form_rows_at (Result.count at q) (count_rows h rs) = omega (arith, length_place_rows rs)
  length_form_rows_at (Result.each at q r) (each_rows {rs} {qs} h is js) =
      omega (arith, length-append rs qs, length_place_rows is, length_form_rows_at r js)
  length_form_rows_at (Result.when at k q r₁ r₂) (when_rows {rs} {qs} {ts} h is js ks) =
      omega (
        arith,
        length-append rs (qs ++ ts),
        length-append qs ts,
        length_place_rows is,
        length_form_rows_at r₁ js,
        length_form_rows_at r₂ ks,
      )
  length_form_rows_at (Result.choose at r₁ r₂ r₃) (choose_rows {rs} {qs} {ts} h is js ks) =
      omega (
        arith,
        length-append rs (qs ++ ts),
        length-append qs ts,
        length_form_rows_at r₁ is,
        length_form_rows_at r₂ js,
        length_form_rows_at r₃ ks,
      )
  length_form_rows_at (Result.literal at v) (literal_row h k) = refl
  length_form_rows_at (Result.pack at ps) (pack_rows h rs) = omega (arith, length_pair_rows_at ps rs)

  length_pair_rows_at : (ps : Pairs) {p : List ℕ} {d : ℕ} {rs : List ℕ} → PairRows p d ps rs → length rs ≡ 3 * pairs_forms ps
  length_pair_rows_at no_pairs no_pair_rows = refl
  length_pair_rows_at (pair n r ps) (pair_rows {rs} {qs} f is js) =
      omega (arith, length-append rs qs, length_form_rows_at r is, length_pair_rows_at ps js)

pub length_form_rows : {p : List ℕ} {d m : ℕ} {r : Result} {rs : List ℕ} → FormRows p d m r rs → length rs ≡ 3 * result_forms r
length_form_rows {r} rs = length_form_rows_at r rs

pub length_pair_rows : {p : List ℕ} {d : ℕ} {ps : Pairs} {rs : List ℕ} → PairRows p d ps rs → length rs ≡ 3 * pairs_forms ps
length_pair_rows {ps} rs = length_pair_rows_at ps rs

-- ---- the first row

-- how a place's rows begin, and a result's
record PlaceBegins (q : Place) (rs : List ℕ) : Type 0 where
  head : ℕ
  headed : PlaceHead q head
  others : List ℕ
  split : rs ≡ head ∷ others

place_begins : {p : List ℕ} {d : ℕ} {q : Place} {rs : List ℕ} → PlaceRows p d q rs → PlaceBegins q rs
place_begins {d} (it_row {n} {h} x l) = record { head = h; headed = x; others = slot d n ∷ 0 ∷ []; split = refl }
place_begins (field_rows {k} {h} {rs} x f qs) = record { head = h; headed = x; others = k ∷ 0 ∷ rs; split = refl }

record FormBegins (m : ℕ) (r : Result) (rs : List ℕ) : Type 0 where
  head : ℕ
  headed : FormHead r head
  payload : ℕ
  others : List ℕ
  split : rs ≡ head ∷ payload ∷ m ∷ others

form_begins : {p : List ℕ} {d m : ℕ} {r : Result} {rs : List ℕ} → FormRows p d m r rs → FormBegins m r rs
form_begins (convert_rows {h} {rs} x is) = record { head = h; headed = x; payload = 0; others = rs; split = refl }
form_begins (keep_rows {h} {rs} x is) = record { head = h; headed = x; payload = 0; others = rs; split = refl }
form_begins (count_rows {h} {rs} x is) = record { head = h; headed = x; payload = 0; others = rs; split = refl }
form_begins (each_rows {h} {rs} {qs} x is js) = record { head = h; headed = x; payload = 0; others = rs ++ qs; split = refl }
form_begins (when_rows {h} {rs} {qs} {ts} x is js ks) =
    record { head = h; headed = x; payload = 0; others = rs ++ (qs ++ ts); split = refl }
form_begins (choose_rows {h} {rs} {qs} {ts} x is js ks) =
    record { head = h; headed = x; payload = 0; others = rs ++ (qs ++ ts); split = refl }
form_begins (literal_row {k} {h} x l) = record { head = h; headed = x; payload = k; others = []; split = refl }
form_begins (pack_rows {h} {rs} x is) = record { head = h; headed = x; payload = 0; others = rs; split = refl }

-- ---- where a form stands

get_or_first : (t : List ℕ) (row : ℕ) {xs : List ℕ} → drop row t ≡ xs → get_or t row 0 ≡ get_or xs 0 0
get_or_first t row e = ap (λ (i : ℕ). get_or t i 0) (sym (add-zero row)) ∙ get_or_row t row 0 e

-- behind a part of n words
pub behind
    : (t : List ℕ) (row : ℕ) {n : ℕ} (rs qs : List ℕ) → drop row t ≡ rs ++ qs → length rs ≡ n → drop (row + n) t ≡ qs
behind t row {n} rs qs e l = drop_row t row n e ∙ drop_at rs qs n l

module _ {t p : List ℕ} {row d : ℕ} {q : Place} (s : PlaceStands t p row d q) where
  place_first : get_or t row 0 ≡ (place_begins s.encoded).head
  place_first =
      get_or_first t row (s.placed ∙ ap (λ (l : List ℕ). l ++ s.rest) (place_begins s.encoded).split)

  pub place_stands_code : get_or t row 0 % 32 ≡ place_code q
  place_stands_code =
      ap (λ (h : ℕ). h % 32) place_first ∙ head_code (place_begins s.encoded).headed (place_code_lt q)

  pub place_stands_at : get_or t row 0 / 2048 % 65536 ≡ place_at q
  place_stands_at =
      ap (λ (h : ℕ). h / 2048 % 65536) place_first ∙ head_at (place_begins s.encoded).headed (place_code_lt q)

  pub place_stands_size : size_at t row ≡ 3 * place_forms q
  unfolding size_at
  place_stands_size =
      ap (λ (h : ℕ). h / 134217728) place_first ∙ head_size (place_begins s.encoded).headed (place_code_lt q)

  pub place_stands_within : row + 3 * place_forms q ≤ length t
  place_stands_within =
      omega (
        arith,
        place_forms_some q,
        length-drop row t,
        ap length s.placed,
        length-append s.rows s.rest,
        length_place_rows s.encoded,
      )

module _ {t p : List ℕ} {row d m : ℕ} {r : Result} (s : FormStands t p row d m r) where
  form_words : drop row t ≡ ((form_begins s.encoded).head ∷ (form_begins s.encoded).payload ∷ m ∷ (form_begins s.encoded).others) ++ s.rest
  form_words = s.placed ∙ ap (λ (l : List ℕ). l ++ s.rest) (form_begins s.encoded).split

  form_first : get_or t row 0 ≡ (form_begins s.encoded).head
  form_first = get_or_first t row form_words

  pub stands_code : get_or t row 0 % 32 ≡ form_code r
  stands_code = ap (λ (h : ℕ). h % 32) form_first ∙ head_code (form_begins s.encoded).headed (form_code_lt r)

  pub stands_operand : get_or t row 0 / 32 % 64 ≡ form_operand r
  stands_operand = ap (λ (h : ℕ). h / 32 % 64) form_first ∙ head_operand (form_begins s.encoded).headed (form_code_lt r)

  pub stands_at : get_or t row 0 / 2048 % 65536 ≡ form_at r
  stands_at = ap (λ (h : ℕ). h / 2048 % 65536) form_first ∙ head_at (form_begins s.encoded).headed (form_code_lt r)

  pub stands_size : size_at t row ≡ 3 * result_forms r
  unfolding size_at
  stands_size = ap (λ (h : ℕ). h / 134217728) form_first ∙ head_size (form_begins s.encoded).headed (form_code_lt r)

  pub stands_name : get_or t (row + 2) 0 ≡ m
  stands_name = get_or_row t row 2 form_words

  pub stands_within : row + 3 * result_forms r ≤ length t
  stands_within =
      omega (
        arith,
        forms_some r,
        length-drop row t,
        ap length s.placed,
        length-append s.rows s.rest,
        length_form_rows s.encoded,
      )
