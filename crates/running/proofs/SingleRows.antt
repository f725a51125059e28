-- Results that are one value. Assumes nothing.
use Prim.Native.Nat.{ℕ, ◌+◌, ◌*◌, ◌/◌, ◌%◌, ◌^◌, ◌≤◌, ◌<◌}
use native.Mathlib.Omega.{arith}
use mathlib.Core.Path.{◌≡◌, refl, sym, ap, ap₂, ◌∙◌, subst, subst₂}
use mathlib.Core.Bool.{Bool, true, false}
use mathlib.Core.List.{List, [], ◌∷◌}
use lib.Dec.{eqb}
use lib.ListN.{length, get_or}
use Rattle.definitions.specs.Bytes.{Bytes, bytes}
use Rattle.definitions.specs.Number.{Number, most_coefficient, most_scale}
use Rattle.definitions.specs.Value.{Value, Items, no_items, item, count, size, size_items}
use Rattle.definitions.specs.Json.{true_name, false_name, null_name}
use Rattle.definitions.specs.Plain.{plain, plain_bool, plain_number, plain_text}
use Rattle.definitions.specs.Running.{gives, items_of, int_value}
use Rattle.pool.specs.Pool.{words, text_in}
use Rattle.number.specs.NumberWrite.{Bounded, as_number}
use Rattle.number.specs.DecimalLaws.{plain_short}
use Rattle.nodes.specs.Nodes.{kind_code, sign_bit, number_bits, head_of, head_word, Refers, Rows, null_row, bool_row, number_row, text_row}
use Rattle.nodes.specs.NodesLaws.{head_word_is}
use Rattle.nodes.specs.StandingLaws.{size_some, value_within}
use Rattle.plain.specs.HeadLaws.{head_kind}
use Rattle.plain.specs.Table.{BoundedNumbers, Used}
use Rattle.plain.specs.TableLaws.{found}
use Rattle.forms.specs.Forms.{literal_code, LiteralPayload, null_payload, yes_payload, no_payload, number_payload, text_payload}
use Rattle.std.specs.Prelude.{Ok}
use Rattle.running.specs.declared.going.Cursor.{Cursor}
use Rattle.running.specs.Bindings.{Bound, standing, missing}
use Rattle.running.specs.BindingsLaws.{bound_kind}
use Rattle.running.specs.Lengths.{text_most}
use Rattle.running.specs.Rows.{PutRow, SomeBound, Keeps}
use Rattle.running.specs.Singles.{Giving, Gives, Counts, NumberWord, SomeNumber, LiteralAt}
use Rattle.running.specs.Walk.{Puts, Made}
use Rattle.running.proofs.Closing.{put_alone}

-- no more rows than the document has
pub bound_size : {nodes p : List ℕ} {at : ℕ} {v : Value} → Bound nodes p at v → length nodes ≤ 65536 → size v ≤ 65536
unfolding size
bound_size (standing s b) h = omega (arith, value_within s)
bound_size (missing e) h = omega arith

bound_bounded : {nodes p : List ℕ} {at : ℕ} {v : Value} → Bound nodes p at v → BoundedNumbers v
unfolding BoundedNumbers
bound_bounded (standing s b) = b
bound_bounded (missing e) = tt

pub few_begun : {limit : ℕ} {c : Cursor} {steps : ℕ} → Giving limit c steps → c.begun < 2 ^ 60
few_begun g = omega (arith, g.paid, g.counted, g.left, g.few)

literal_row_of
    : {p : List ℕ} {v : Value} {k : ℕ} (name : ℕ) → LiteralPayload p v k → Rows p name v (head_word v ∷ k ∷ name ∷ [])
literal_row_of name null_payload = null_row
literal_row_of name yes_payload = bool_row
literal_row_of name no_payload = bool_row
literal_row_of name number_payload = number_row
literal_row_of name (text_payload f) = text_row f

literal_one : {p : List ℕ} {v : Value} {k : ℕ} → LiteralPayload p v k → size v ≡ 1
unfolding size
literal_one null_payload = refl
literal_one yes_payload = refl
literal_one no_payload = refl
literal_one number_payload = refl
literal_one (text_payload f) = refl

pub count_word : {n : ℕ} → n ≤ 65536 → NumberWord 0 n (record { negative = false; coefficient = n; scale = 0 })
unfolding sign_bit most_coefficient most_scale
count_word h = record { signed = refl; whole = refl; bounded = record { coefficient = omega arith; scale = omega arith } }

-- a value that is put
module _ {results results' : List ℕ} {limit : ℕ} {c : Cursor} {steps : ℕ} (g : Giving limit c steps) where
  made
      : {p : List ℕ} (v : Value) {kind begun : ℕ} → kind ≡ kind_code v → BoundedNumbers v → Puts p results results' c.name c.begun v begun
      → size v ≤ 65536 → Made (gives v steps) limit p results results' c kind begun steps
  made v k b q h =
      record {
        value = v;
        ran = refl;
        kinded = k;
        bounded = b;
        puts = q;
        paid = omega (arith, q.counted, h, g.paid, g.counted);
        counted = g.counted;
        left = g.left;
      }

  -- ---- a value of the document

  pub value_given
      : {nodes : List ℕ} {at kind begun : ℕ} → SomeBound nodes at 0 → kind ≡ get_or nodes at 0 % 8
      → Keeps nodes at results results' c.begun c.name begun
      → Gives results results' limit c steps (λ p v. Bound nodes p at v) (Ok (record { kind = kind; begun = begun; steps = steps }))
  value_given s k q =
      record {
        front = q.front;
        told = λ p v b. made v (k ∙ bound_kind b) (bound_bounded b) (q.puts p v b) (bound_size b s.small);
      }

  -- ---- a number that is made

  pub number_given
      : {p : List ℕ} {begun head n : ℕ} (x : Number) → Bounded x → n ≡ x.coefficient → head ≡ head_word (Value.number x)
      → PutRow results results' c.begun head n c.name begun → Made (gives (Value.number x) steps) limit p results results' c 3 begun steps
  unfolding size kind_code BoundedNumbers
  number_given {p} {begun} {head} {n} x b e h q =
      made (Value.number x) refl b (put_alone (subst₂ (λ (y z : ℕ). PutRow results results' c.begun y z c.name begun) h e q) refl number_row)
      (omega arith)

  -- ---- a count

  pub count_given
      : {nodes : List ℕ} {at begun head n : ℕ} → SomeBound nodes at 0
      → ((p : List ℕ) (v : Value) → Bound nodes p at v → n ≡ count (items_of v))
      → ((x : Number) → NumberWord 0 n x → head ≡ head_word (Value.number x))
      → PutRow results results' c.begun head n c.name begun
      → n ≤ 65536
      → Gives results results' limit c steps (Counts nodes at) (Ok (record { kind = 3; begun = begun; steps = steps }))
  unfolding int_value
  count_given {nodes} {at} {begun} {head} {n} s m h q few =
      record {
        front = q.front;
        told = λ p v b.
            let e : v ≡ int_value n = b.same ∙ ap int_value (sym (m p b.whole b.bound)) in
            let w = count_word few in
            subst (λ (u : Value). Made (gives u steps) limit p results results' c 3 begun steps) (sym e)
            (number_given (record { negative = false; coefficient = n; scale = 0 }) w.bounded refl (h _ w) q);
      }

  -- ---- a literal

  pub literal_given_here
      : {forms pool : List ℕ} {begun head payload : ℕ}
      → ((p : List ℕ) (v : Value) → LiteralAt forms pool c.row p v → head ≡ head_word v)
      → payload ≡ get_or forms (c.row + 1) 0
      → PutRow results results' c.begun head payload c.name begun
      → Gives results results' limit c steps (λ p v. LiteralAt forms pool c.row p v) (Ok (record { kind = (head % 8); begun = begun; steps = steps }))
  literal_given_here {forms} {pool} {begun} {head} {payload} h e q =
      record {
        front = q.front;
        told = λ p v b.
            made v (ap (λ (x : ℕ). x % 8) (h p v b) ∙ head_kind v) b.bounded
            (put_alone
            (subst (λ (x : ℕ). PutRow results results' c.begun x payload c.name begun) (h p v b) q)
            (literal_one b.payload)
            (literal_row_of c.name (subst (LiteralPayload p v) (sym e) b.payload)))
            (omega (arith, literal_one b.payload));
      }

-- a document of so many words has no more elements
count_less : (vs : Items) → count vs ≤ size_items vs
unfolding count size
count_less no_items = omega arith
count_less (item v vs) = omega (arith, count_less vs, size_some v)

count_of_less : (v : Value) → count (items_of v) ≤ size v
unfolding items_of count size
count_of_less Value.null = omega arith
count_of_less (Value.bool b) = omega arith
count_of_less (Value.number x) = omega arith
count_of_less (Value.text t) = omega arith
count_of_less (Value.list vs) = omega (arith, count_less vs)
count_of_less (Value.rec ms) = omega arith

pub count_few
    : {nodes : List ℕ} {at n : ℕ} → SomeBound nodes at 0 → ((p : List ℕ) (v : Value) → Bound nodes p at v → n ≡ count (items_of v)) → n ≤ 65536
count_few s m = omega (arith, m s.used s.value s.bound, count_of_less s.value, bound_size s.bound s.small)

-- ---- first words

module _ {bits coefficient : ℕ} where
  as_word : (x : Number) → NumberWord bits coefficient x → as_number (eqb (bits % 2) 1) coefficient (bits / 2) ≡ x
  unfolding sign_bit
  as_word x w =
      ap (λ (b : Bool). as_number b coefficient (bits / 2)) (signed x.negative w.signed)
      ∙ ap (λ (n : ℕ). as_number x.negative n (bits / 2)) w.whole
      ∙ ap (λ (n : ℕ). as_number x.negative x.coefficient n) (scaled x.negative w.signed)
    where
      signed : (b : Bool) → bits ≡ sign_bit b + 2 * x.scale → eqb (bits % 2) 1 ≡ b
      signed true h = ap (λ (n : ℕ). eqb n 1) (let e : bits % 2 ≡ 1 = omega (arith, h) in e)
      signed false h = ap (λ (n : ℕ). eqb n 1) (let e : bits % 2 ≡ 0 = omega (arith, h) in e)

      scaled : (b : Bool) → bits ≡ sign_bit b + 2 * x.scale → bits / 2 ≡ x.scale
      scaled true h = omega (arith, h)
      scaled false h = omega (arith, h)

  pub number_bounded : (n : SomeNumber bits coefficient) → Bounded (as_number (eqb (bits % 2) 1) coefficient (bits / 2))
  number_bounded n = subst Bounded (sym (as_word n.number n.held)) n.held.bounded

  pub number_fits
      : {written : ℕ} → SomeNumber bits coefficient → written ≡ length (plain_number (as_number (eqb (bits % 2) 1) coefficient (bits / 2)))
      → head_of 3 bits written < 2 ^ 64
  unfolding sign_bit most_scale
  number_fits n e =
      let x = n.number in
      let s = sign_most x.negative in
      omega (arith, e, plain_short (as_number (eqb (bits % 2) 1) coefficient (bits / 2)) (number_bounded n), n.held.signed, s, n.held.bounded.scale)
    where
      sign_most : (b : Bool) → sign_bit b ≤ 1
      sign_most true = omega arith
      sign_most false = omega arith

  pub number_made
      : {written head : ℕ} → written ≡ length (plain_number (as_number (eqb (bits % 2) 1) coefficient (bits / 2))) → head ≡ head_of 3 bits written
      → (x : Number) → NumberWord bits coefficient x → head ≡ head_word (Value.number x)
  unfolding kind_code number_bits plain
  number_made e h x w = h ∙ head_word_is (Value.number x) refl w.signed (e ∙ ap (λ (y : Number). length (plain_number y)) (as_word x w))

-- the literal of a code
module _ {forms pool : List ℕ} {row code : ℕ} (coded : code ≡ get_or forms row 0 % 32) where
  pub literal_number
      : code ≡ 12 → {bits payload : ℕ} → bits ≡ get_or forms row 0 / 32 % 64 → payload ≡ get_or forms (row + 1) 0 → (p : List ℕ) (v : Value)
      → LiteralAt forms pool row p v → (x : Number) × (v ≡ Value.number x) × NumberWord bits payload x
  unfolding literal_code number_bits BoundedNumbers
  literal_number e {bits} {payload} f g p v h = go h.payload g h.coded h.operand h.bounded
    where
      go : {w : Value} {j : ℕ} → LiteralPayload p w j → payload ≡ j → get_or forms row 0 % 32 ≡ literal_code w → get_or forms row 0 / 32 % 64 ≡ number_bits w
          → BoundedNumbers w → (x : Number) × (w ≡ Value.number x) × NumberWord bits payload x
      go null_payload y k o b = absurd (let z : ⊥ = omega (arith, k, coded, e) in z)
      go yes_payload y k o b = absurd (let z : ⊥ = omega (arith, k, coded, e) in z)
      go no_payload y k o b = absurd (let z : ⊥ = omega (arith, k, coded, e) in z)
      go (number_payload {x = x}) y k o b = (x, refl, record { signed = f ∙ o; whole = y; bounded = b })
      go (text_payload {t = t} q) y k o b = absurd (let z : ⊥ = omega (arith, k, coded, e) in z)

  pub literal_text
      : code ≡ 13 → {payload : ℕ} → payload ≡ get_or forms (row + 1) 0 → (p : List ℕ) (v : Value)
      → LiteralAt forms pool row p v → (t : Bytes) × (v ≡ Value.text t) × Refers p t payload
  unfolding literal_code
  literal_text e {payload} g p v h = go h.payload g h.coded
    where
      go : {w : Value} {j : ℕ} → LiteralPayload p w j → payload ≡ j → get_or forms row 0 % 32 ≡ literal_code w
          → (t : Bytes) × (w ≡ Value.text t) × Refers p t payload
      go null_payload y k = absurd (let z : ⊥ = omega (arith, k, coded, e) in z)
      go yes_payload y k = absurd (let z : ⊥ = omega (arith, k, coded, e) in z)
      go no_payload y k = absurd (let z : ⊥ = omega (arith, k, coded, e) in z)
      go (number_payload {x = x}) y k = absurd (let z : ⊥ = omega (arith, k, coded, e) in z)
      go (text_payload {t = t} q) y k = (t, refl, subst (Refers p t) (sym y) q)

  pub literal_yes
      : code ≡ 14 → {head : ℕ} → head ≡ head_of 2 0 4 → (p : List ℕ) (v : Value) → LiteralAt forms pool row p v → head ≡ head_word v
  unfolding literal_code kind_code number_bits plain plain_bool true_name bytes
  literal_yes e {head} f p v h = go h.payload h.coded
    where
      go : {w : Value} {j : ℕ} → LiteralPayload p w j → get_or forms row 0 % 32 ≡ literal_code w → head ≡ head_word w
      go null_payload k = absurd (let z : ⊥ = omega (arith, k, coded, e) in z)
      go yes_payload k = f ∙ head_word_is (Value.bool true) refl refl refl
      go no_payload k = absurd (let z : ⊥ = omega (arith, k, coded, e) in z)
      go (number_payload {x = x}) k = absurd (let z : ⊥ = omega (arith, k, coded, e) in z)
      go (text_payload {t = t} q) k = absurd (let z : ⊥ = omega (arith, k, coded, e) in z)

  pub literal_no
      : code ≡ 15 → {head : ℕ} → head ≡ head_of 1 0 5 → (p : List ℕ) (v : Value) → LiteralAt forms pool row p v → head ≡ head_word v
  unfolding literal_code kind_code number_bits plain plain_bool false_name bytes
  literal_no e {head} f p v h = go h.payload h.coded
    where
      go : {w : Value} {j : ℕ} → LiteralPayload p w j → get_or forms row 0 % 32 ≡ literal_code w → head ≡ head_word w
      go null_payload k = absurd (let z : ⊥ = omega (arith, k, coded, e) in z)
      go yes_payload k = absurd (let z : ⊥ = omega (arith, k, coded, e) in z)
      go no_payload k = f ∙ head_word_is (Value.bool false) refl refl refl
      go (number_payload {x = x}) k = absurd (let z : ⊥ = omega (arith, k, coded, e) in z)
      go (text_payload {t = t} q) k = absurd (let z : ⊥ = omega (arith, k, coded, e) in z)

  pub literal_none
      : (code ≡ 12 → ⊥) → (code ≡ 13 → ⊥) → (code ≡ 14 → ⊥) → (code ≡ 15 → ⊥) → {head : ℕ} → head ≡ head_of 0 0 4 → (p : List ℕ) (v : Value)
      → LiteralAt forms pool row p v → head ≡ head_word v
  unfolding literal_code kind_code number_bits plain null_name bytes
  literal_none a b d e {head} f p v h = go h.payload h.coded
    where
      go : {w : Value} {j : ℕ} → LiteralPayload p w j → get_or forms row 0 % 32 ≡ literal_code w → head ≡ head_word w
      go null_payload k = f ∙ head_word_is Value.null refl refl refl
      go yes_payload k = absurd (d (coded ∙ k))
      go no_payload k = absurd (e (coded ∙ k))
      go (number_payload {x = x}) k = absurd (a (coded ∙ k))
      go (text_payload {t = t} q) k = absurd (b (coded ∙ k))

-- a text of the pool, at a reference
module _ {pool : List ℕ} {k w n : ℕ} (worded : w ≡ k % 65536) (sized : n ≡ k / 65536) where
  text_here : {p : List ℕ} {t : Bytes} → Used pool p → Refers p t k → plain_text (text_in pool w n) ≡ plain_text t
  text_here u f = ap₂ (λ (x y : ℕ). plain_text (text_in pool x y)) worded sized ∙ ap plain_text (found u f).text

  pub text_room : {p : List ℕ} {t : Bytes} → Used pool p → Refers p t k → (w + words n ≤ length pool) × (length (plain_text (text_in pool w n)) < 2 ^ 64)
  text_room u f = (
    subst (λ (x : ℕ). x + words n ≤ length pool) (sym worded) (subst (λ (y : ℕ). k % 65536 + words y ≤ length pool) (sym sized) (found u f).within),
    omega (arith, ap length (text_here u f), text_most f u.small),
  )

  pub text_fits
      : {p : List ℕ} {t : Bytes} {written : ℕ} → Used pool p → Refers p t k → written ≡ length (plain_text (text_in pool w n)) → head_of 4 0 written < 2 ^ 64
  text_fits u f e = omega (arith, e, ap length (text_here u f), text_most f u.small)

  pub text_made
      : {p : List ℕ} {written head : ℕ} → written ≡ length (plain_text (text_in pool w n)) → head ≡ head_of 4 0 written → (v : Value)
      → Used pool p → (t : Bytes) × (v ≡ Value.text t) × Refers p t k → head ≡ head_word v
  unfolding kind_code number_bits plain
  text_made e h v u (t, s, f) =
      h ∙ head_word_is (Value.text t) refl refl (e ∙ ap length (text_here u f)) ∙ ap head_word (sym s)
