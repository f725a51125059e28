-- `pack`, as its results are checked one after the other. Assumes nothing.
use Prim.Native.Nat.{ℕ, ◌+◌, ◌%◌, ◌≤◌, ◌<◌}
use mathlib.Core.Path.{◌≡◌, refl, ap, subst, ◌∙◌}
use mathlib.Core.Bool.{true, false}
use mathlib.Core.List.{List}
use native.Mathlib.Omega.{arith}
use lib.ListN.{length, get_or}
use Rattle.definitions.specs.Bytes.{Bytes}
use Rattle.definitions.specs.Value.{Value}
use Rattle.definitions.specs.Outcome.{Outcome, ok, ◌>>=◌}
use Rattle.definitions.specs.Shape.{Shape, Fields, no_fields, rec_of, only_rec, has_list, has_rec}
use Rattle.definitions.specs.Join.{insert}
use Rattle.definitions.specs.Reader.{Result, Pairs, no_pairs, pair}
use Rattle.definitions.specs.Checking.{check, check_pairs}
use Rattle.laws.specs.FormGrammar.{result_levels, pairs_levels}
use Rattle.shapes.specs.Shapes.{bit, numeric_bits, kind_bits}
use Rattle.forms.specs.Forms.{literal_code, form_code, size_at, FormStands, PairsStand}
use Rattle.forms.specs.FormsLaws.{forms_some, stands_size, stands_within}
use Rattle.forms.specs.PartsLaws.{pack_stands, FirstPair, first_pair, no_pair_left}
use Rattle.std.specs.Prelude.{Ok, Err}
use Rattle.reading.specs.declared.Refusal.{Refusal}
use Rattle.reading.specs.Refusals.{refused_as}
use Rattle.shapes.specs.declared.Shape as bits
use Rattle.checking.specs.Bindings.{Kept}
use Rattle.checking.specs.BindingsLaws.{bindings_kept}
use Rattle.checking.specs.CheckContracts.{Checked, Checks, MeetsForm, FormAsked, GivesForm}
use Rattle.checking.proofs.SimpleForms.{conversion_code_le}
use Rattle.checking.proofs.FormWalk.{kept_same, kept_then, coded_as, part_told}

-- the form that has the code of `pack`
data IsPack : Result → Type 0 where
  is_pack : {at : ℕ} {ps : Pairs} → IsPack (Result.pack at ps)

literal_code_le : (v : Value) → literal_code v ≤ 16
unfolding literal_code
literal_code_le Value.null = omega arith
literal_code_le (Value.bool true) = omega arith
literal_code_le (Value.bool false) = omega arith
literal_code_le (Value.number x) = omega arith
literal_code_le (Value.text t) = omega arith
literal_code_le (Value.list vs) = omega arith
literal_code_le (Value.rec ms) = omega arith

pack_coded : {forms p : List ℕ} {row d m : ℕ} (r : Result) → FormStands forms p row d m r → form_code r ≡ 17 → IsPack r
unfolding form_code
pack_coded (Result.convert at c q) h e = absurd (let z : ⊥ = omega (arith, conversion_code_le c) in z)
pack_coded (Result.keep at q) h e = absurd (let z : ⊥ = omega arith in z)
pack_coded (Result.count at q) h e = absurd (let z : ⊥ = omega arith in z)
pack_coded (Result.each at q r) h e = absurd (let z : ⊥ = omega arith in z)
pack_coded (Result.when at k q r₁ r₂) h e = absurd (let z : ⊥ = omega arith in z)
pack_coded (Result.choose at r₁ r₂ r₃) h e = absurd (let z : ⊥ = omega arith in z)
pack_coded (Result.literal at v) h e = absurd (let z : ⊥ = omega (arith, literal_code_le v) in z)
pack_coded (Result.pack at ps) h e = is_pack

-- what checking the pairs ps comes to, where qs are left
pub record Left (ps qs : Pairs) (env : List Shape) : Type 0 where
  pub passes : (fs : Fields) → check_pairs qs env ≡ ok fs → (gs : Fields) × (check_pairs ps env ≡ ok gs)
  pub refuses : (why : Refusal) → check_pairs qs env ≡ refused_as why → check_pairs ps env ≡ refused_as why

all_left : (ps : Pairs) (env : List Shape) → Left ps ps env
all_left ps env = record { passes = λ fs e. (fs, e); refuses = λ why e. e }

-- one more passed
left_less : {ps qs : Pairs} {n : Bytes} {r : Result} {env : List Shape} (s : Shape) → check r env ≡ ok s → Left ps (pair n r qs) env → Left ps qs env
unfolding check ◌>>=◌
left_less {qs} {n} {r} {env} s e h =
    record {
      passes =
          λ fs f.
          h.passes (insert n s fs)
          (ap (λ (o : Outcome ℕ Shape). o >>= λ s. check_pairs qs env >>= λ fs. ok (insert n s fs)) e
          ∙ ap (λ (o : Outcome ℕ Fields). o >>= λ fs. ok (insert n s fs)) f);
      refuses =
          λ why f.
          h.refuses why
          (ap (λ (o : Outcome ℕ Shape). o >>= λ s. check_pairs qs env >>= λ fs. ok (insert n s fs)) e
          ∙ ap (λ (o : Outcome ℕ Fields). o >>= λ fs. ok (insert n s fs)) f);
    }

left_refused
    : {ps qs : Pairs} {n : Bytes} {r : Result} {env : List Shape} (why : Refusal) → check r env ≡ refused_as why
    → Left ps (pair n r qs) env → check_pairs ps env ≡ refused_as why
unfolding check ◌>>=◌
left_refused {qs} {n} {env} why e h =
    h.refuses why (ap (λ (o : Outcome ℕ Shape). o >>= λ s. check_pairs qs env >>= λ fs. ok (insert n s fs)) e)

-- the results left, where those before have passed
pub record LeftAt (forms shapes pool b b' : List ℕ) (row end d i : ℕ) : Type 0 where
  pub kept : Kept b b' d
  pub inside : i ≤ end
  pub behind : row + 3 ≤ i
  pub left
      : (p : List ℕ) (m deep at : ℕ) (ps : Pairs) (env : List Shape) → MeetsForm forms shapes pool b p row d m deep (Result.pack at ps) env
      → (qs : Pairs) × PairsStand forms p i end d qs × (pairs_levels qs ≤ pairs_levels ps) × Left ps qs env

rec_given : (fs : Fields) → kind_bits (only_rec (rec_of fs)) ≡ 64
unfolding kind_bits only_rec bit numeric_bits has_list has_rec
rec_given fs = refl

module _ (forms shapes pool b : List ℕ) (row d : ℕ) (pack : get_or forms row 0 % 32 ≡ 17) where
  abbrev Meets : (p : List ℕ) (m deep : ℕ) → Result → List Shape → Type 0
  Meets p m deep r env = MeetsForm forms shapes pool b p row d m deep r env

  as_pack : {p : List ℕ} {m deep : ℕ} {r : Result} {env : List Shape} → Meets p m deep r env → IsPack r
  as_pack {r} h = pack_coded r h.stands (coded_as pack h.stands)

  pub pack_ends : FormAsked forms shapes pool b row d → (row + 3 ≤ row + size_at forms row) × (row + size_at forms row ≤ length forms)
  pack_ends h = (
    omega (arith, stands_size h.meets.stands, forms_some h.form),
    omega (arith, stands_size h.meets.stands, stands_within h.meets.stands),
  )

  module _ {size : ℕ} (wide : size ≡ size_at forms row) (asked : FormAsked forms shapes pool b row d) where
    pub pack_begins : LeftAt forms shapes pool b b row (row + size) d (row + 3)
    pack_begins =
        record {
          kept = kept_same b d;
          inside = omega (arith, (pack_ends asked).0);
          behind = omega arith;
          left =
              λ p m deep at ps env h. (ps, rw wide (pack_stands h.stands), omega arith, all_left ps env);
        }

    module _ (b₁ : List ℕ) (i : ℕ) (inv : LeftAt forms shapes pool b b₁ row (row + size) d i) where
      -- what the pairs come to
      ends
          : (row + size ≤ i) → {p : List ℕ} {m deep : ℕ} {env : List Shape} {r : Result} → IsPack r → Meets p m deep r env
          → Checks (check r env) (Ok (record { kinds = 64 }))
      unfolding check ◌>>=◌
      ends past {p} {m} {deep} {env} (is_pack {at} {ps}) h =
          let l = inv.left p m deep at ps env h in
          let none_left : l.0 ≡ no_pairs = no_pair_left l.1 past in
          let g = l.3.passes no_fields (ap (λ (qs : Pairs). check_pairs qs env) none_left) in
          (only_rec (rec_of g.0), ap (λ (o : Outcome ℕ Fields). o >>= λ fs. ok (only_rec (rec_of fs))) g.1, rec_given g.0)

      pub pack_told : (row + size ≤ i) → GivesForm forms shapes pool b b₁ row d (Ok (record { kinds = 64 }))
      pack_told past = record { told = λ p m deep r env h. ends past (as_pack h) h; kept = inv.kept }

      module _ (more : i < row + size) where
        module _ {p : List ℕ} {m deep at : ℕ} {ps : Pairs} {env : List Shape} (h : Meets p m deep (Result.pack at ps) env) where
          abbrev first : FirstPair forms p i (row + size) d (inv.left p m deep at ps env h).0
          first = first_pair (inv.left p m deep at ps env h).1 more

          first_levels : result_levels first.result ≤ pairs_levels ps
          unfolding pairs_levels
          first_levels =
              let l = inv.left p m deep at ps env h in
              let e : pairs_levels l.0 ≡ pairs_levels (pair first.name first.result first.others) = ap pairs_levels first.same in
              omega (arith, l.2)

          others_levels : pairs_levels first.others ≤ pairs_levels ps
          unfolding pairs_levels
          others_levels =
              let l = inv.left p m deep at ps env h in
              let e : pairs_levels l.0 ≡ pairs_levels (pair first.name first.result first.others) = ap pairs_levels first.same in
              omega (arith, l.2)

          part_room : d + result_levels first.result ≤ length b₁ + 1
          unfolding result_levels
          part_room = omega (arith, first_levels, h.room, inv.kept.same)

          part_meets : MeetsForm forms shapes pool b₁ p i d first.word deep first.result env
          part_meets =
              record { pooled = h.pooled; stands = first.stands; bound = bindings_kept h.bound inv.kept; room = part_room }

          first_left : Left ps (pair first.name first.result first.others) env
          first_left = subst (λ (qs : Pairs). Left ps qs env) first.same (inv.left p m deep at ps env h).3

          first_size : (i < i + size_at forms i) × (i + size_at forms i ≤ row + size)
          first_size = (
            omega (arith, stands_size first.stands, forms_some first.result),
            omega (arith, first.more.reaches),
          )

        pub part_asked : FormAsked forms shapes pool b₁ i d
        part_asked = go (as_pack asked.meets) asked.meets
          where
            go : {r : Result} → IsPack r → Meets asked.p asked.m asked.deep r asked.env → FormAsked forms shapes pool b₁ i d
            go (is_pack {at} {ps}) m =
                record { p = asked.p; m = _; deep = asked.deep; form = _; env = asked.env; meets = part_meets m }

        pub part_ends : (i < i + size_at forms i) × (i + size_at forms i ≤ row + size)
        part_ends = go (as_pack asked.meets) asked.meets
          where
            go : {r : Result} → IsPack r → Meets asked.p asked.m asked.deep r asked.env
                → (i < i + size_at forms i) × (i + size_at forms i ≤ row + size)
            go (is_pack {at} {ps}) m = first_size m

        module _ (b₂ : List ℕ) (part : Checked) (answer : GivesForm forms shapes pool b₁ b₂ i d part) where
          refused_at
              : {why : Refusal} → part ≡ Err why → {p : List ℕ} {m deep : ℕ} {env : List Shape} {r : Result}
              → IsPack r → Meets p m deep r env → check r env ≡ refused_as why
          unfolding check ◌>>=◌
          refused_at {why} f (is_pack {at} {ps}) h =
              ap (λ (o : Outcome ℕ Fields). o >>= λ fs. ok (only_rec (rec_of fs)))
              (left_refused why (part_told forms shapes pool part (Err why) answer f (part_meets h)) (first_left h))

          pub pack_refused : {why : Refusal} → part ≡ Err why → GivesForm forms shapes pool b b₂ row d (Err why)
          pack_refused f = record { told = λ p m deep r env h. refused_at f (as_pack h) h; kept = kept_then inv.kept answer.kept }

          pub pack_next
              : {given : bits.Shape} {size₂ : ℕ} → part ≡ Ok given → size₂ ≡ size_at forms i
              → LeftAt forms shapes pool b b₂ row (row + size) d (i + size₂)
          pack_next {given} {size₂} f w =
              record {
                kept = kept_then inv.kept answer.kept;
                inside = omega (arith, part_ends.1);
                behind = omega (arith, inv.behind);
                left =
                    λ p m deep at ps env h.
                    let t = part_told forms shapes pool part (Ok given) answer f (part_meets h) in (
                      (first h).others,
                      rw w (first h).more,
                      others_levels h,
                      left_less t.0 t.1 (first_left h),
                    );
              }
