-- Laws of a result that is being read: what must come behind the results so far, and the rows of the whole. Assumes nothing.
use Prim.Native.Nat.{ℕ, suc, ◌+◌, ◌-◌, ◌*◌, ◌≤◌, ◌<◌}
use mathlib.Core.Path.{◌≡◌, refl, sym, ap, ◌∙◌, subst}
use mathlib.Core.Bool.{Bool, true, false, ◌||◌, or_assoc, or_comm}
use mathlib.Core.List.{List, [], ◌∷◌, ◌++◌, append_assoc, append-nil}
use native.Mathlib.Omega.{arith}
use borrow.Author.Tests.{ne_eqb}
use lib.Dec.{eqb}
use Rattle.definitions.specs.Bytes.{Bytes, same}
use Rattle.definitions.specs.Value.{Value}
use Rattle.definitions.specs.Reader.{to_int, to_dec, to_bool, to_text, Test, Result, Pairs, no_pairs, pair, among_pairs, pairs_onto, Frame, each_body}
use Rattle.definitions.specs.Reader.{when_first, when_second, if_first, if_second, if_third, Around, in_form, PlaceUse, converts, keeps, counts}
use Rattle.definitions.specs.Reader.{maps, tests, result_open, result_close, use_place, use_result, binds, bindings}
use Rattle.laws.specs.FormGrammar.{result_forms}
use Rattle.forms.specs.Forms.{conversion_code, literal_code, form_code, test_code, form_operand, form_at, head_of, FormRows, convert_rows, keep_rows}
use Rattle.forms.specs.Forms.{count_rows, each_rows, when_rows, choose_rows, literal_row, pack_rows, PairRows, no_pair_rows, pair_rows}
use Rattle.form_reader.specs.FormWords.{use_code, use_operand}
use Rattle.form_reader.specs.FormLeads.{Lead, lead_code, named, parts_of, inner_bound, place_frame, if_frame, next, Filled, converted, kept}
use Rattle.form_reader.specs.FormLeads.{counted, mapping, mapped, testing, tested_first, tested, chosen_none, chosen_first, chosen_second}
use Rattle.form_reader.specs.FormLeads.{chosen, packed, said, whole_each, whole_when, whole_if, whole, LeadHeld, place_held, if_held}
use Rattle.form_reader.specs.FormLeads.{pack_held, literal_held, NameWord, PartsBefore, none_before, part_before}
use Rattle.form_reader.specs.FormParts.{debt}

-- ---- codes

pub parts_each : (code : ℕ) → code ≡ 9 → 1 ≡ parts_of code
unfolding parts_of
parts_each code e = rw e

pub parts_when : (code : ℕ) → code ≡ 10 → 2 ≡ parts_of code
unfolding parts_of
parts_when code e = rw e

pub parts_if : (code : ℕ) → code ≡ 11 → 3 ≡ parts_of code
unfolding parts_of
parts_if code e = rw e

pub parts_none : (code : ℕ) → (code ≡ 9 → ⊥) → (code ≡ 10 → ⊥) → (code ≡ 11 → ⊥) → 0 ≡ parts_of code
unfolding parts_of
parts_none code e f g = rw (ne_eqb code 9 e, parts_of) (rw (ne_eqb code 10 f, parts_of) (rw (ne_eqb code 11 g, parts_of)))

pub ruleset parts_told = (parts_each, parts_when, parts_if, parts_none)

pub bound_each : (code bound : ℕ) → code ≡ 9 → bound + 1 ≡ inner_bound code bound
unfolding inner_bound
bound_each code bound e = rw e (omega arith)

pub bound_when : (code bound : ℕ) → code ≡ 10 → bound + 1 ≡ inner_bound code bound
unfolding inner_bound
bound_when code bound e = rw e (omega arith)

pub bound_other : (code bound : ℕ) → (code ≡ 9 → ⊥) → (code ≡ 10 → ⊥) → bound ≡ inner_bound code bound
unfolding inner_bound
bound_other code bound e f = rw (ne_eqb code 9 e, inner_bound) (rw (ne_eqb code 10 f, inner_bound))

pub ruleset bounds_told = (bound_each, bound_when, bound_other)

-- at most one binding more
pub inner_le : (code bound : ℕ) → (bound ≤ inner_bound code bound) × (inner_bound code bound ≤ bound + 1)
unfolding inner_bound
inner_le code bound = pick (eqb code 9) (eqb code 10)
  where
    pick
        : (a b : Bool)
        → (bound ≤ elim a [ true ↦ suc bound | false ↦ elim b [ true ↦ suc bound | false ↦ bound ] ])
        × (elim a [ true ↦ suc bound | false ↦ elim b [ true ↦ suc bound | false ↦ bound ] ] ≤ bound + 1)
    pick true b = (omega arith, omega arith)
    pick false true = (omega arith, omega arith)
    pick false false = (omega arith, omega arith)

-- ---- how many must come

pub start_filled : (lead : Lead) → Filled lead no_pairs (parts_of (lead_code lead))
unfolding parts_of lead_code use_code conversion_code literal_code
start_filled (Lead.with_place (converts to_int) q) = converted refl
start_filled (Lead.with_place (converts to_dec) q) = converted refl
start_filled (Lead.with_place (converts to_bool) q) = converted refl
start_filled (Lead.with_place (converts to_text) q) = converted refl
start_filled (Lead.with_place keeps q) = kept refl
start_filled (Lead.with_place counts q) = counted refl
start_filled (Lead.with_place maps q) = mapping refl
start_filled (Lead.with_place (tests k) q) = testing refl
start_filled Lead.choosing = chosen_none refl
start_filled Lead.packing = packed refl
start_filled (Lead.saying Value.null) = said refl
start_filled (Lead.saying (Value.bool true)) = said refl
start_filled (Lead.saying (Value.bool false)) = said refl
start_filled (Lead.saying (Value.number x)) = said refl
start_filled (Lead.saying (Value.text t)) = said refl
start_filled (Lead.saying (Value.list vs)) = said refl
start_filled (Lead.saying (Value.rec ms)) = said refl

-- where a result must come
pub record FrameNext (lead : Lead) (ps : Pairs) (k : ℕ) : Type 0 where
  pub frame : Frame
  pub opens : (at : ℕ) (o : Around) → next lead ps at o ≡ result_open (in_form at frame o)
  pub then : (r : Result) (at : ℕ) (o : Around) → use_result at frame r o ≡ next lead (pair [] r ps) at o
  pub filled : (r : Result) → Filled lead (pair [] r ps) (k - 1)
  pub binding : (at bound : ℕ) (o : Around) → bindings o ≡ bound → bindings (in_form at frame o) ≡ inner_bound (lead_code lead) bound
  pub word : (p : List ℕ) → NameWord p (named lead) [] 0

pub next_frame : {lead : Lead} {ps : Pairs} {k : ℕ} → Filled lead ps k → 0 < k → FrameNext lead ps k
unfolding next place_frame if_frame use_place use_result bindings binds inner_bound lead_code use_code named
next_frame (converted e) h = absurd (let z : ⊥ = omega arith in z)
next_frame (kept e) h = absurd (let z : ⊥ = omega arith in z)
next_frame (counted e) h = absurd (let z : ⊥ = omega arith in z)
next_frame {k} (mapping {q} e) h =
    record {
      frame = each_body q;
      opens = λ at o. refl;
      then = λ r at o. refl;
      filled = λ r. mapped {k = k - 1} (omega arith);
      binding = λ at bound o i. ap suc i;
      word = λ p. refl;
    }
next_frame (mapped e) h = absurd (let z : ⊥ = omega arith in z)
next_frame {k} (testing {t} {q} e) h =
    record {
      frame = when_first t q;
      opens = λ at o. refl;
      then = λ r at o. refl;
      filled = λ r. tested_first {k = k - 1} (omega arith);
      binding = λ at bound o i. ap suc i;
      word = λ p. refl;
    }
next_frame {k} (tested_first {t} {q} {r = r₁} e) h =
    record {
      frame = when_second t q r₁;
      opens = λ at o. refl;
      then = λ r at o. refl;
      filled = λ r. tested {k = k - 1} (omega arith);
      binding = λ at bound o i. ap suc i;
      word = λ p. refl;
    }
next_frame (tested e) h = absurd (let z : ⊥ = omega arith in z)
next_frame {k} (chosen_none e) h =
    record {
      frame = if_first;
      opens = λ at o. refl;
      then = λ r at o. refl;
      filled = λ r. chosen_first {k = k - 1} (omega arith);
      binding = λ at bound o i. i;
      word = λ p. refl;
    }
next_frame {k} (chosen_first {r = r₁} e) h =
    record {
      frame = if_second r₁;
      opens = λ at o. refl;
      then = λ r at o. refl;
      filled = λ r. chosen_second {k = k - 1} (omega arith);
      binding = λ at bound o i. i;
      word = λ p. refl;
    }
next_frame {k} (chosen_second {r₁} {r₂} e) h =
    record {
      frame = if_third r₁ r₂;
      opens = λ at o. refl;
      then = λ r at o. refl;
      filled = λ r. chosen {k = k - 1} (omega arith);
      binding = λ at bound o i. i;
      word = λ p. refl;
    }
next_frame (chosen e) h = absurd (let z : ⊥ = omega arith in z)
next_frame (packed e) h = absurd (let z : ⊥ = omega arith in z)
next_frame (said e) h = absurd (let z : ⊥ = omega arith in z)

-- where none must, the bracket behind them
pub next_close
    : {lead : Lead} {ps : Pairs} {k : ℕ} → Filled lead ps k → k ≡ 0 → (lead_code lead ≡ 17 → ⊥) → (at : ℕ) (o : Around)
    → next lead ps at o ≡ result_close (whole at lead ps) o
unfolding next place_frame if_frame use_place use_result whole whole_each whole_when whole_if lead_code
next_close (converted e) i n at o = refl
next_close (kept e) i n at o = refl
next_close (counted e) i n at o = refl
next_close (mapping e) i n at o = absurd (let z : ⊥ = omega arith in z)
next_close (mapped e) i n at o = refl
next_close (testing e) i n at o = absurd (let z : ⊥ = omega arith in z)
next_close (tested_first e) i n at o = absurd (let z : ⊥ = omega arith in z)
next_close (tested e) i n at o = refl
next_close (chosen_none e) i n at o = absurd (let z : ⊥ = omega arith in z)
next_close (chosen_first e) i n at o = absurd (let z : ⊥ = omega arith in z)
next_close (chosen_second e) i n at o = absurd (let z : ⊥ = omega arith in z)
next_close (chosen e) i n at o = refl
next_close (packed e) i n at o = absurd (n refl)
next_close (said e) i n at o = refl

-- ---- the rows of the whole

-- the results of a pack, in order
parts_onto
    : {p : List ℕ} {d : ℕ} {ps qs : Pairs} {rs ts : List ℕ} → PartsBefore p d true ps rs → PairRows p d qs ts
    → PairRows p d (pairs_onto ps qs) (rs ++ ts)
unfolding pairs_onto
parts_onto none_before g = g
parts_onto {p} {d} {qs} {ts} (part_before {n} {r} {ps} {rs} {qs = us} b w f) g =
    subst (λ (l : List ℕ). PairRows p d (pairs_onto ps (pair n r qs)) l) (sym (append_assoc rs us ts))
    (parts_onto b (pair_rows w f g))

pub parts_in_order : {p : List ℕ} {d : ℕ} {ps : Pairs} {rs : List ℕ} → PartsBefore p d true ps rs → PairRows p d (pairs_onto ps no_pairs) rs
parts_in_order {p} {d} {ps} {rs} b =
    subst (λ (l : List ℕ). PairRows p d (pairs_onto ps no_pairs) l) (append-nil rs) (parts_onto b no_pair_rows)

-- the order of the pairs does not matter for a name
among_onto : (t : Bytes) (ps qs : Pairs) → among_pairs t (pairs_onto ps qs) ≡ among_pairs t ps || among_pairs t qs
unfolding pairs_onto among_pairs
among_onto t no_pairs qs = refl
among_onto t (pair n r ps) qs =
    among_onto t ps (pair n r qs)
    ∙ sym (or_assoc (among_pairs t ps) (same t n) (among_pairs t qs))
    ∙ ap (λ (b : Bool). b || among_pairs t qs) (or_comm (among_pairs t ps) (same t n))

pub among_in_order : (t : Bytes) (ps : Pairs) → among_pairs t (pairs_onto ps no_pairs) ≡ among_pairs t ps
unfolding among_pairs
among_in_order t ps = among_onto t ps no_pairs ∙ or_comm (among_pairs t ps) false

pub test_small : (t : Test) → test_code t < 64
unfolding test_code
test_small Test.null = omega arith
test_small Test.bool = omega arith
test_small Test.int = omega arith
test_small Test.num = omega arith
test_small Test.text = omega arith
test_small Test.list = omega arith
test_small Test.rec = omega arith

none_small : 0 < 64
none_small = omega arith

-- a result without a name
unnamed : {p : List ℕ} {d k : ℕ} {r : Result} {rs : List ℕ} → k ≡ 0 → FormRows p d k r rs → FormRows p d 0 r rs
unnamed {p} {d} {r} {rs} e f = subst (λ (k : ℕ). FormRows p d k r rs) e f

pub whole_rows
    : {p : List ℕ} {d code operand payload k : ℕ} {lead : Lead} {ps : Pairs} {rs qs : List ℕ} (at m : ℕ)
    → LeadHeld p d lead code operand payload rs → Filled lead ps k → k ≡ 0 → PartsBefore p (inner_bound code d) (named lead) ps qs
    → at < 65536
    → FormRows p d m (whole at lead ps) (head_of code operand at (3 * result_forms (whole at lead ps)) ∷ payload ∷ m ∷ (rs ++ qs))
unfolding whole whole_each whole_when whole_if use_code use_operand form_code form_operand form_at inner_bound named
whole_rows {p} {d} at m (place_held {q} {rs} r) (converted {c} e) i none_before l =
    subst
    (λ (t : List ℕ). FormRows p d m (Result.convert at c q)
    (head_of (conversion_code c) 0 at (3 * result_forms (Result.convert at c q)) ∷ 0 ∷ m ∷ t))
    (sym (append-nil rs)) (convert_rows (record { word = refl; short = none_small; near = l }) r)
whole_rows {p} {d} at m (place_held {q} {rs} r) (kept e) i none_before l =
    subst (λ (t : List ℕ). FormRows p d m (Result.keep at q) (head_of 7 0 at (3 * result_forms (Result.keep at q)) ∷ 0 ∷ m ∷ t))
    (sym (append-nil rs)) (keep_rows (record { word = refl; short = none_small; near = l }) r)
whole_rows {p} {d} at m (place_held {q} {rs} r) (counted e) i none_before l =
    subst (λ (t : List ℕ). FormRows p d m (Result.count at q) (head_of 8 0 at (3 * result_forms (Result.count at q)) ∷ 0 ∷ m ∷ t))
    (sym (append-nil rs)) (count_rows (record { word = refl; short = none_small; near = l }) r)
whole_rows at m (place_held r) (mapping e) i b l = absurd (let z : ⊥ = omega arith in z)
whole_rows at m (place_held r) (mapped {r = s} e) i (part_before none_before w f) l =
    each_rows {r = s} (record { word = refl; short = none_small; near = l }) r (unnamed w f)
whole_rows at m (place_held r) (testing e) i b l = absurd (let z : ⊥ = omega arith in z)
whole_rows at m (place_held r) (tested_first e) i b l = absurd (let z : ⊥ = omega arith in z)
whole_rows at m (place_held r) (tested {t} e) i (part_before (part_before none_before w₁ f₁) w₂ f₂) l =
    when_rows (record { word = refl; short = test_small t; near = l }) r (unnamed w₁ f₁) (unnamed w₂ f₂)
whole_rows at m if_held (chosen_none e) i b l = absurd (let z : ⊥ = omega arith in z)
whole_rows at m if_held (chosen_first e) i b l = absurd (let z : ⊥ = omega arith in z)
whole_rows at m if_held (chosen_second e) i b l = absurd (let z : ⊥ = omega arith in z)
whole_rows {p} {d} at m if_held (chosen {r₁} {r₂} {r₃} e) i
    (part_before {qs = q₃} (part_before {qs = q₂} (part_before {qs = q₁} none_before w₁ f₁) w₂ f₂) w₃ f₃) l =
    subst
    (λ (t : List ℕ). FormRows p d m (Result.choose at r₁ r₂ r₃)
    (head_of 11 0 at (3 * result_forms (Result.choose at r₁ r₂ r₃)) ∷ 0 ∷ m ∷ t))
    (sym (append_assoc q₁ q₂ q₃))
    (choose_rows (record { word = refl; short = none_small; near = l }) (unnamed w₁ f₁) (unnamed w₂ f₂) (unnamed w₃ f₃))
whole_rows at m pack_held (packed e) i b l = pack_rows (record { word = refl; short = none_small; near = l }) (parts_in_order b)
whole_rows at m (literal_held x s) (said e) i none_before l = literal_row (record { word = refl; short = s; near = l }) x

-- ---- leads and their codes

pub held_code
    : {p : List ℕ} {d code operand payload : ℕ} {lead : Lead} {rs : List ℕ} → LeadHeld p d lead code operand payload rs
    → lead_code lead ≡ code
unfolding lead_code
held_code (place_held r) = refl
held_code if_held = refl
held_code pack_held = refl
held_code (literal_held x s) = refl

pub literal_code_lt : (v : Value) → literal_code v < 17
unfolding literal_code
literal_code_lt Value.null = omega arith
literal_code_lt (Value.bool true) = omega arith
literal_code_lt (Value.bool false) = omega arith
literal_code_lt (Value.number x) = omega arith
literal_code_lt (Value.text t) = omega arith
literal_code_lt (Value.list vs) = omega arith
literal_code_lt (Value.rec ms) = omega arith

pub use_code_lt : (u : PlaceUse) → use_code u < 11
unfolding use_code conversion_code
use_code_lt (converts to_int) = omega arith
use_code_lt (converts to_dec) = omega arith
use_code_lt (converts to_bool) = omega arith
use_code_lt (converts to_text) = omega arith
use_code_lt keeps = omega arith
use_code_lt counts = omega arith
use_code_lt maps = omega arith
use_code_lt (tests k) = omega arith

pub pack_lead : (lead : Lead) → lead_code lead ≡ 17 → lead ≡ Lead.packing
unfolding lead_code
pack_lead (Lead.with_place u q) e = absurd (let z : ⊥ = omega (arith, use_code_lt u) in z)
pack_lead Lead.choosing e = absurd (let z : ⊥ = omega arith in z)
pack_lead Lead.packing e = refl
pack_lead (Lead.saying v) e = absurd (let z : ⊥ = omega (arith, literal_code_lt v) in z)

pub debt_le : (lead : Lead) → debt lead ≤ 5
unfolding debt
debt_le (Lead.with_place u q) = omega arith
debt_le Lead.choosing = omega arith
debt_le Lead.packing = omega arith
debt_le (Lead.saying v) = omega arith

pub debt_none : (lead : Lead) → (lead_code lead ≡ 17 → ⊥) → debt lead ≡ 0
unfolding debt lead_code
debt_none (Lead.with_place u q) h = refl
debt_none Lead.choosing h = refl
debt_none Lead.packing h = absurd (h refl)
debt_none (Lead.saying v) h = refl
