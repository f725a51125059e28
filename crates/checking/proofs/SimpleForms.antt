-- Forms without results inside, as they are checked. Assumes nothing.
use Prim.Native.Nat.{ℕ, ◌+◌, ◌/◌, ◌%◌, ◌≤◌, ◌<◌}
use mathlib.Core.Path.{◌≡◌, refl, sym, ap, subst, ◌∙◌}
use mathlib.Core.Bool.{Bool, true, false}
use mathlib.Core.List.{List}
use native.Mathlib.Omega.{arith}
use lib.Bits.{bit_or}
use lib.Dec.{eqb}
use lib.ListN.{length, get_or}
use Rattle.definitions.specs.Outcome.{Outcome, ok, ◌>>=◌}
use Rattle.definitions.specs.Number.{Number, is_int}
use Rattle.definitions.specs.Value.{Value}
use Rattle.definitions.specs.Shape.{among, rank, Shape, int_only, int_and_dec, has_list, has_rec, only_null, only_bool, only_numeric, only_text}
use Rattle.definitions.specs.Join.{numeric_of, shape_of}
use Rattle.definitions.specs.Reader.{Place, Conversion, to_int, to_dec, to_bool, to_text, Result}
use Rattle.definitions.specs.Checking.{wants, convert_kinds, convert_shape, list_kinds, check_place, check}
use Rattle.nodes.specs.Nodes.{number_bits}
use Rattle.shapes.specs.Shapes.{bit, numeric_bits, kind_bits}
use Rattle.forms.specs.Forms.{conversion_code, literal_code, form_code, form_operand, form_at}
use Rattle.forms.specs.Forms.{PlaceStands, FormStands, LiteralPayload, null_payload, yes_payload}
use Rattle.forms.specs.Forms.{no_payload, number_payload, text_payload}
use Rattle.forms.specs.FormsLaws.{forms_some, stands_code, stands_operand, stands_at, stands_within}
use Rattle.forms.specs.PartsLaws.{convert_place, keep_place, count_place, literal_stands}
use Rattle.std.specs.Prelude.{Ok, Err}
use Rattle.reading.specs.declared.Refusal.{Refusal}
use Rattle.reading.specs.declared.Cause.TheVariants as cause
use Rattle.reading.specs.Refusals.{refused_as}
use Rattle.shapes.specs.declared.Shape as bits
use Rattle.checking.specs.declared.bindings.Binding.{Binding}
use Rattle.checking.specs.KindSets.{flags}
use Rattle.checking.specs.WantsLaws.{wanted, joins_told, wants_met, wants_unmet}
use Rattle.checking.specs.CheckContracts.{Located, Checked, Locates, Checks, PlaceAsked, GivesPlace, TellsWant, TellsConversion, TellsLiteral}
use Rattle.checking.specs.CheckContracts.{Simple, simple_convert, simple_keep, simple_count, simple_literal, MeetsSimple, SimpleAsked, GivesSimple}

-- ---- what a form wants

module _ (kinds want : ℕ) (given : bits.Shape) (place : ℕ) where
  pub want_met : eqb (bit_or kinds want) want ≡ true → TellsWant kinds want given.kinds place (Ok given)
  want_met h ks s t e f g = (t, wants_met place ks s (ok t) (sym (joins_told ks s kinds want e f) ∙ h), g)

  pub want_unmet
      : eqb (bit_or kinds want) want ≡ false → TellsWant kinds want given.kinds place (Err (record { cause = cause.UnwantedKind; place = place }))
  want_unmet h ks s t e f g = wants_unmet place ks s (ok t) (sym (joins_told ks s kinds want e f) ∙ h)

-- ---- conversions

conversion_bits : Conversion → ℕ
conversion_bits to_int = 4
conversion_bits to_dec = 12
conversion_bits to_bool = 2
conversion_bits to_text = 16

conversion_told : (c : Conversion) → (conversion_bits c ≡ wanted (convert_kinds c)) × (kind_bits (convert_shape c) ≡ conversion_bits c)
unfolding conversion_bits flags among rank convert_kinds bit kind_bits convert_shape only_bool only_numeric only_text numeric_bits has_list has_rec
conversion_told to_int = (refl, refl)
conversion_told to_dec = (refl, refl)
conversion_told to_bool = (refl, refl)
conversion_told to_text = (refl, refl)

-- the kinds of the conversion of a code
converts : (code kinds : ℕ) → ((c : Conversion) → code ≡ conversion_code c → conversion_bits c ≡ kinds) → TellsConversion code kinds
converts code kinds h c e = let t = conversion_told c in (sym (h c e) ∙ t.0, t.1 ∙ h c e)

int_bits : (code : ℕ) → code ≡ 3 → (c : Conversion) → code ≡ conversion_code c → conversion_bits c ≡ 4
unfolding conversion_code conversion_bits
int_bits code e to_int f = refl
int_bits code e to_dec f = omega arith
int_bits code e to_bool f = omega arith
int_bits code e to_text f = omega arith

dec_bits : (code : ℕ) → code ≡ 4 → (c : Conversion) → code ≡ conversion_code c → conversion_bits c ≡ 12
unfolding conversion_code conversion_bits
dec_bits code e to_int f = omega arith
dec_bits code e to_dec f = refl
dec_bits code e to_bool f = omega arith
dec_bits code e to_text f = omega arith

bool_bits : (code : ℕ) → code ≡ 5 → (c : Conversion) → code ≡ conversion_code c → conversion_bits c ≡ 2
unfolding conversion_code conversion_bits
bool_bits code e to_int f = omega arith
bool_bits code e to_dec f = omega arith
bool_bits code e to_bool f = refl
bool_bits code e to_text f = omega arith

text_bits
    : (code : ℕ) → (code ≡ 3 → ⊥) → (code ≡ 4 → ⊥) → (code ≡ 5 → ⊥) → (c : Conversion) → code ≡ conversion_code c → conversion_bits c ≡ 16
unfolding conversion_code conversion_bits
text_bits code a b d to_int f = absurd (a f)
text_bits code a b d to_dec f = absurd (b f)
text_bits code a b d to_bool f = absurd (d f)
text_bits code a b d to_text f = refl

pub int_converts : (code : ℕ) → code ≡ 3 → TellsConversion code 4
int_converts code e = converts code 4 (int_bits code e)

pub dec_converts : (code : ℕ) → code ≡ 4 → TellsConversion code 12
dec_converts code e = converts code 12 (dec_bits code e)

pub bool_converts : (code : ℕ) → code ≡ 5 → TellsConversion code 2
bool_converts code e = converts code 2 (bool_bits code e)

pub text_converts : (code : ℕ) → (code ≡ 3 → ⊥) → (code ≡ 4 → ⊥) → (code ≡ 5 → ⊥) → TellsConversion code 16
text_converts code a b d = converts code 16 (text_bits code a b d)

pub list_wanted : 33 ≡ wanted list_kinds
unfolding flags among rank list_kinds bit
list_wanted = refl

int_given : kind_bits (only_numeric int_only) ≡ 4
unfolding kind_bits only_numeric bit numeric_bits has_list has_rec
int_given = refl

-- ---- literals

number_kinds : (x : Number) (i : Bool) → i ≡ is_int x → kind_bits (only_numeric (numeric_of x)) ≡ elim i [ true ↦ 4 | false ↦ 12 ]
unfolding numeric_of kind_bits only_numeric bit numeric_bits has_list has_rec
number_kinds x true e = ap (λ (b : Bool). kind_bits (only_numeric (elim b [ true ↦ int_only | false ↦ int_and_dec ]))) (sym e)
number_kinds x false e = ap (λ (b : Bool). kind_bits (only_numeric (elim b [ true ↦ int_only | false ↦ int_and_dec ]))) (sym e)

number_literal
    : (code operand payload : ℕ) (i : Bool) → code ≡ 12
    → ((x : Number) → operand ≡ number_bits (Value.number x) → payload ≡ x.coefficient → i ≡ is_int x)
    → TellsLiteral code operand payload (elim i [ true ↦ 4 | false ↦ 12 ])
unfolding literal_code shape_of
number_literal code operand payload i e told p Value.null l f g k = omega arith
number_literal code operand payload i e told p (Value.bool true) l f g k = omega arith
number_literal code operand payload i e told p (Value.bool false) l f g k = omega arith
number_literal code operand payload i e told p (Value.number x) l f g number_payload = number_kinds x i (told x g refl)
number_literal code operand payload i e told p (Value.text t) l f g k = omega arith
number_literal code operand payload i e told p (Value.list vs) l f g k = omega arith
number_literal code operand payload i e told p (Value.rec ms) l f g k = omega arith

module _
    (code operand payload : ℕ) (e : code ≡ 12) {i : Bool}
    (told : (x : Number) → operand ≡ number_bits (Value.number x) → payload ≡ x.coefficient → i ≡ is_int x)
  where
    pub int_literal : i ≡ true → TellsLiteral code operand payload 4
    int_literal h = number_literal code operand payload true e (λ x f g. sym h ∙ told x f g)

    pub decimal_literal : i ≡ false → TellsLiteral code operand payload 12
    decimal_literal h = number_literal code operand payload false e (λ x f g. sym h ∙ told x f g)

pub text_literal : (code operand payload : ℕ) → code ≡ 13 → TellsLiteral code operand payload 16
unfolding literal_code shape_of kind_bits only_text bit numeric_bits has_list has_rec
text_literal code operand payload e p Value.null l f g k = omega arith
text_literal code operand payload e p (Value.bool true) l f g k = omega arith
text_literal code operand payload e p (Value.bool false) l f g k = omega arith
text_literal code operand payload e p (Value.number x) l f g k = omega arith
text_literal code operand payload e p (Value.text t) l f g k = refl
text_literal code operand payload e p (Value.list vs) l f g k = omega arith
text_literal code operand payload e p (Value.rec ms) l f g k = omega arith

pub null_literal : (code operand payload : ℕ) → code ≡ 16 → TellsLiteral code operand payload 1
unfolding literal_code shape_of kind_bits only_null bit numeric_bits has_list has_rec
null_literal code operand payload e p Value.null l f g k = refl
null_literal code operand payload e p (Value.bool true) l f g k = omega arith
null_literal code operand payload e p (Value.bool false) l f g k = omega arith
null_literal code operand payload e p (Value.number x) l f g k = omega arith
null_literal code operand payload e p (Value.text t) l f g k = omega arith
null_literal code operand payload e p (Value.list vs) l f g k = omega arith
null_literal code operand payload e p (Value.rec ms) l f g k = omega arith

pub bool_literal : (code operand payload : ℕ) → (code ≡ 12 → ⊥) → (code ≡ 13 → ⊥) → (code ≡ 16 → ⊥) → TellsLiteral code operand payload 2
unfolding literal_code shape_of kind_bits only_bool bit numeric_bits has_list has_rec
bool_literal code operand payload a b d p Value.null l f g k = absurd (d f)
bool_literal code operand payload a b d p (Value.bool x) l f g k = refl
bool_literal code operand payload a b d p (Value.number x) l f g k = absurd (a f)
bool_literal code operand payload a b d p (Value.text t) l f g k = absurd (b f)
bool_literal code operand payload a b d p (Value.list vs) l f g k = omega arith
bool_literal code operand payload a b d p (Value.rec ms) l f g k = omega arith

-- ---- a form with a place

pub simple_within : {forms shapes pool bindings : List ℕ} {row : ℕ} → SimpleAsked forms shapes pool bindings row → row + 3 ≤ length forms
simple_within h = omega (arith, stands_within h.meets.stands, forms_some h.form)

-- the codes of literals that stand in a table
pub literal_code_ge : {p : List ℕ} (v : Value) {k : ℕ} → LiteralPayload p v k → 12 ≤ literal_code v
unfolding literal_code
literal_code_ge Value.null null_payload = omega arith
literal_code_ge (Value.bool true) yes_payload = omega arith
literal_code_ge (Value.bool false) no_payload = omega arith
literal_code_ge (Value.number x) number_payload = omega arith
literal_code_ge (Value.text t) (text_payload f) = omega arith
literal_code_ge {p = p} (Rattle.definitions.specs.Value.list _) {k = k} x'' = elim x'' [ ]
literal_code_ge {p = p} (Rattle.definitions.specs.Value.rec _) {k = k} x3 = elim x3 [ ]

pub conversion_code_le : (c : Conversion) → conversion_code c ≤ 6
unfolding conversion_code
conversion_code_le to_int = omega arith
conversion_code_le to_dec = omega arith
conversion_code_le to_bool = omega arith
conversion_code_le to_text = omega arith

module _ (forms shapes pool bindings : List ℕ) (row : ℕ) {code : ℕ} (coded : code ≡ get_or forms row 0 % 32) where
  abbrev StandsThere : (p : List ℕ) (d m : ℕ) → Result → Type 0
  StandsThere p d m r = FormStands forms p row d m r

  -- what the code tells
  literal_coded : {p : List ℕ} {d m at : ℕ} {v : Value} → StandsThere p d m (Result.literal at v) → 12 ≤ code
  unfolding form_code
  literal_coded {v} h = omega (arith, stands_code h, literal_code_ge v (literal_stands h))

  convert_coded : {p : List ℕ} {d m at : ℕ} {c : Conversion} {q : Place} → StandsThere p d m (Result.convert at c q) → code ≡ conversion_code c
  unfolding form_code
  convert_coded h = coded ∙ stands_code h

  keep_coded : {p : List ℕ} {d m at : ℕ} {q : Place} → StandsThere p d m (Result.keep at q) → code ≡ 7
  unfolding form_code
  keep_coded h = coded ∙ stands_code h

  count_coded : {p : List ℕ} {d m at : ℕ} {q : Place} → StandsThere p d m (Result.count at q) → code ≡ 8
  unfolding form_code
  count_coded h = coded ∙ stands_code h

  module _ (few : code < 9) where
    pub place_asked : SimpleAsked forms shapes pool bindings row → PlaceAsked forms shapes pool bindings (row + 3)
    place_asked h = go h.meets.simple h.meets
      where
        meet : {q : Place} {r : Result} → MeetsSimple forms shapes pool bindings h.p row h.d h.m h.deep r h.env
            → PlaceStands forms h.p (row + 3) h.d q → PlaceAsked forms shapes pool bindings (row + 3)
        meet {q} m s =
            record {
              p = h.p;
              d = h.d;
              deep = h.deep;
              place = q;
              env = h.env;
              meets = record { pooled = m.pooled; stands = s; bound = m.bound };
            }

        go : {r : Result} → Simple r → MeetsSimple forms shapes pool bindings h.p row h.d h.m h.deep r h.env
            → PlaceAsked forms shapes pool bindings (row + 3)
        go (simple_convert {at} {c} {q}) m = meet m (convert_place m.stands)
        go (simple_keep {at} {q}) m = meet m (keep_place m.stands)
        go (simple_count {at} {q}) m = meet m (count_place m.stands)
        go (simple_literal {at} {v}) m = absurd (let z : ⊥ = omega (arith, literal_coded m.stands) in z)

    module _ (l : Located) (gives : GivesPlace forms shapes pool bindings (row + 3) l) where
      told
          : (x : Located) → l ≡ x → {p : List ℕ} {d m deep : ℕ} {q : Place} {r : Result} {env : List Shape}
          → MeetsSimple forms shapes pool bindings p row d m deep r env → PlaceStands forms p (row + 3) d q
          → Locates shapes p deep (check_place q env) x
      told x e {p} {d} {deep} {q} {env} h s =
          subst
          (λ (y : Located). Locates shapes p deep (check_place q env) y)
          e
          (gives p d deep q env (record { pooled = h.pooled; stands = s; bound = h.bound }))

      module _ {p : List ℕ} {d m deep : ℕ} {env : List Shape} where
        refuses
            : {why : Refusal} → l ≡ Err why → {r : Result} → Simple r → MeetsSimple forms shapes pool bindings p row d m deep r env
            → check r env ≡ refused_as why
        unfolding check ◌>>=◌
        refuses {why} e (simple_convert {at} {c} {q}) h =
            ap (λ (o : Outcome ℕ Shape). o >>= λ s. wants at (convert_kinds c) s (ok (convert_shape c)))
            (told (Err why) e h (convert_place h.stands))
        refuses {why} e (simple_keep {at} {q}) h = told (Err why) e h (keep_place h.stands)
        refuses {why} e (simple_count {at} {q}) h =
            ap (λ (o : Outcome ℕ Shape). o >>= λ s. wants at list_kinds s (ok (only_numeric int_only)))
            (told (Err why) e h (count_place h.stands))
        refuses e (simple_literal {at} {v}) h = absurd (let z : ⊥ = omega (arith, literal_coded h.stands) in z)

        module _ {here : Binding} (e : l ≡ Ok here) where
          keeps
              : code ≡ 7 → {r : Result} → Simple r → MeetsSimple forms shapes pool bindings p row d m deep r env
              → Checks (check r env) (Ok here.kinds)
          unfolding check ◌>>=◌
          keeps f (simple_convert {at} {c} {q}) h =
              absurd (let z : ⊥ = omega (arith, convert_coded h.stands, conversion_code_le c) in z)
          keeps f (simple_keep {at} {q}) h =
              let t = told (Ok here) e h (keep_place h.stands) in (t.0, t.1, t.2.left)
          keeps f (simple_count {at} {q}) h = absurd (let z : ⊥ = omega (arith, count_coded h.stands) in z)
          keeps f (simple_literal {at} {v}) h = absurd (let z : ⊥ = omega (arith, literal_coded h.stands) in z)

          module _ {place : ℕ} (near : place ≡ get_or forms row 0 / 2048 % 65536) (x : Checked) where
            counts
                : code ≡ 8 → TellsWant here.kinds.kinds 33 4 place x → {r : Result} → Simple r
                → MeetsSimple forms shapes pool bindings p row d m deep r env → Checks (check r env) x
            unfolding check ◌>>=◌ form_at
            counts f w (simple_convert {at} {c} {q}) h =
                absurd (let z : ⊥ = omega (arith, convert_coded h.stands, conversion_code_le c) in z)
            counts f w (simple_keep {at} {q}) h = absurd (let z : ⊥ = omega (arith, keep_coded h.stands) in z)
            counts f w (simple_count {at} {q}) h =
                let t = told (Ok here) e h (count_place h.stands) in
                let same : wants place list_kinds t.0 (ok (only_numeric int_only)) ≡ check (Result.count at q) env
                = ap (λ (y : ℕ). wants y list_kinds t.0 (ok (only_numeric int_only))) (near ∙ stands_at h.stands)
                ∙ sym (ap (λ (o : Outcome ℕ Shape). o >>= λ s. wants at list_kinds s (ok (only_numeric int_only))) t.1) in
                subst (λ (o : Outcome ℕ Shape). Checks o x) same (w list_kinds t.0 (only_numeric int_only) t.2.left list_wanted int_given)
            counts f w (simple_literal {at} {v}) h = absurd (let z : ⊥ = omega (arith, literal_coded h.stands) in z)

            converts_to
                : (code ≡ 7 → ⊥) → (code ≡ 8 → ⊥) → {given : ℕ} → TellsConversion code given → TellsWant here.kinds.kinds given given place x
                → {r : Result} → Simple r → MeetsSimple forms shapes pool bindings p row d m deep r env → Checks (check r env) x
            unfolding check ◌>>=◌ form_at
            converts_to a b g w (simple_convert {at} {c} {q}) h =
                let t = told (Ok here) e h (convert_place h.stands) in
                let u = g c (convert_coded h.stands) in
                let same : wants place (convert_kinds c) t.0 (ok (convert_shape c)) ≡ check (Result.convert at c q) env
                = ap (λ (y : ℕ). wants y (convert_kinds c) t.0 (ok (convert_shape c))) (near ∙ stands_at h.stands)
                ∙ sym (ap (λ (o : Outcome ℕ Shape). o >>= λ s. wants at (convert_kinds c) s (ok (convert_shape c))) t.1) in
                subst (λ (o : Outcome ℕ Shape). Checks o x) same (w (convert_kinds c) t.0 (convert_shape c) t.2.left u.0 u.1)
            converts_to a b g w (simple_keep {at} {q}) h = absurd (a (keep_coded h.stands))
            converts_to a b g w (simple_count {at} {q}) h = absurd (b (count_coded h.stands))
            converts_to a b g w (simple_literal {at} {v}) h = absurd (let z : ⊥ = omega (arith, literal_coded h.stands) in z)

      pub place_refused : {why : Refusal} → l ≡ Err why → GivesSimple forms shapes pool bindings row (Err why)
      place_refused e p d m deep r env h = refuses e h.simple h

      module _ {here : Binding} (e : l ≡ Ok here) where
        pub keep_told : code ≡ 7 → GivesSimple forms shapes pool bindings row (Ok here.kinds)
        keep_told f p d m deep r env h = keeps e f h.simple h

        module _ {place : ℕ} (near : place ≡ get_or forms row 0 / 2048 % 65536) (x : Checked) where
          pub count_told : code ≡ 8 → TellsWant here.kinds.kinds 33 4 place x → GivesSimple forms shapes pool bindings row x
          count_told f w p d m deep r env h = counts e near x f w h.simple h

          pub convert_told
              : (code ≡ 7 → ⊥) → (code ≡ 8 → ⊥) → {given : ℕ} → TellsConversion code given → TellsWant here.kinds.kinds given given place x
              → GivesSimple forms shapes pool bindings row x
          convert_told a b g w p d m deep r env h = converts_to e near x a b g w h.simple h

  -- a literal
  literal_checks
      : {operand payload : ℕ} {given : bits.Shape} → 9 ≤ code → operand ≡ get_or forms row 0 / 32 % 64 → payload ≡ get_or forms (row + 1) 0
      → TellsLiteral code operand payload given.kinds → {p : List ℕ} {d m deep : ℕ} {env : List Shape} {r : Result}
      → Simple r → MeetsSimple forms shapes pool bindings p row d m deep r env → Checks (check r env) (Ok given)
  unfolding check form_code form_operand
  literal_checks l f g t (simple_convert {at} {c} {q}) h =
      absurd (let z : ⊥ = omega (arith, convert_coded h.stands, conversion_code_le c) in z)
  literal_checks l f g t (simple_keep {at} {q}) h = absurd (let z : ⊥ = omega (arith, keep_coded h.stands) in z)
  literal_checks l f g t (simple_count {at} {q}) h = absurd (let z : ⊥ = omega (arith, count_coded h.stands) in z)
  literal_checks l f g t {p} (simple_literal {at} {v}) h =
      (shape_of v, refl, t p v l (coded ∙ stands_code h.stands) (f ∙ stands_operand h.stands) (rw g (literal_stands h.stands)))

  pub literal_told
      : {operand payload : ℕ} {given : bits.Shape} → 9 ≤ code → operand ≡ get_or forms row 0 / 32 % 64 → payload ≡ get_or forms (row + 1) 0
      → TellsLiteral code operand payload given.kinds → GivesSimple forms shapes pool bindings row (Ok given)
  literal_told l f g t p d m deep r env h = literal_checks l f g t h.simple h
