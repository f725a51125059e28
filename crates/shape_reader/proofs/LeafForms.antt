-- A shape without parts, by the bytes that stand there. Assumes nothing.
use Prim.Native.Nat.{ℕ, ◌+◌, ◌-◌, ◌*◌, ◌%◌, ◌≤◌, ◌<◌}
use mathlib.Core.Path.{◌≡◌, refl, sym, ap, ◌∙◌, subst}
use mathlib.Core.Bool.{true, false}
use mathlib.Core.List.{List, [], ◌∷◌, ◌++◌}
use native.Mathlib.Nat.{mod-eq_of_lt}
use native.Mathlib.Omega.{arith}
use lib.ListN.{length, get_or, length-append}
use Rattle.definitions.specs.Bytes.{Bytes, bytes, order, same}
use Rattle.definitions.specs.Shape.{Kind, all_kinds}
use Rattle.definitions.specs.ShapeText.{kind_name, kind_words}
use Rattle.definitions.specs.Tokens.{closing, word, look_word}
use Rattle.laws.specs.TokenGrammar.{Word}
use Rattle.shapes.specs.Shapes.{kind_bit, has_bit, head_of}
use Rattle.tokens.specs.Expecting.{Sort, an_opening, a_closing, a_text, a_word, a_break, sort, another, JudgesFull}
use Rattle.tokens.specs.Standing.{StandsAt, low_value, EightTold}
use Rattle.tokens.specs.StandingLaws.{stands_then, stands_behind, stands_front, stands_byte, high, high_word, space_border, closing_border}
use Rattle.tokens.specs.StandingLaws.{opening_stands, closing_stands, word_stands, behind_space, behind_skipped}
use Rattle.tokens.specs.TokenRead.{tokens_from, Skips, Found}
use Rattle.tokens.specs.WordValues.{fits}
use Rattle.reading.specs.declared.Cursor.{Cursor}
use Rattle.std.specs.Prelude.{Option, Ok, Some, None}
use Rattle.shape_reader.specs.ShapeParts.{kind_code, shape_bytes, Follows, Ready, OpensForm, ReadsForm}
use Rattle.shape_reader.specs.declared.kinds.Kinds.{Kinds}
use Rattle.shape_reader.specs.Leaves.{kinds_bytes, InTurn, no_more, one_more, KindsStand, OthersAnswer, OtherKinds}
use Rattle.shape_reader.specs.Leaves.{LeafAnswer, StandsLeaf, LeafFound, FoundAnswer, FindsLeaf}
use Rattle.shape_reader.proofs.ElementForms.{element_none}
use Rattle.shape_reader.proofs.KindReading.{KindsSoFar, no_kinds, one_kind, kinds_end}
use Rattle.shape_reader.proofs.KindSets.{held_small, dec_behind, other_kind}
use Rattle.shape_reader.proofs.MemberForms.{no_members, last_turn}
use Rattle.shape_reader.proofs.MemberReading.{shape_closed}
use Rattle.shape_reader.proofs.Openings.{shape_begun, form_open}
use Rattle.shape_reader.proofs.Table.{with_row}
use Rattle.shape_reader.proofs.WholeForms.{inner_ready, form_read}

-- ---- kind words

name_word : (k : Kind) → Word (kind_name k)
unfolding kind_name bytes high
name_word Kind.null = high_word _ _ refl
name_word Kind.bool = high_word _ _ refl
name_word Kind.int = high_word _ _ refl
name_word Kind.dec = high_word _ _ refl
name_word Kind.text = high_word _ _ refl
name_word Kind.list = high_word _ _ refl
name_word Kind.rec = high_word _ _ refl

name_kind : (k : Kind) → kind_bit k ≡ kind_code (look_word kind_words (kind_name k))
unfolding kind_words all_kinds kind_name bytes kind_bit look_word kind_code same order
name_kind Kind.null = refl
name_kind Kind.bool = refl
name_kind Kind.int = refl
name_kind Kind.dec = refl
name_kind Kind.text = refl
name_kind Kind.list = refl
name_kind Kind.rec = refl

-- a word ends where kinds or the bracket behind them begin
ends_word
    : {text : Bytes} {at : ℕ} {w : Bytes} (ks : List Kind) → Word w → StandsAt text at w → StandsAt text (at + length w) (kinds_bytes ks)
    → Found text at (word w) at (at + length w)
unfolding kinds_bytes
ends_word [] x s t = word_stands x closing_border s t
ends_word (k ∷ ks) x s t = word_stands x space_border s (stands_front (0x20 ∷ []) (kind_name k ++ kinds_bytes ks) t)

-- the kinds of the bits m have been read up to the bracket behind them, which ends at a place
record KindsEnded (text : Bytes) (at m end : ℕ) : Type 0 where
  pub place : ℕ
  pub so_far : KindsSoFar text at m place
  pub bracket : StandsAt text place (0x29 ∷ [])
  pub ends : end ≡ place + 1

kinds_on
    : {text : Bytes} {at n i m : ℕ} {ks : List Kind} → InTurn n ks m → KindsSoFar text at n i → StandsAt text i (kinds_bytes ks)
    → KindsEnded text at m (i + length (kinds_bytes ks))
unfolding kinds_bytes
kinds_on {i = i} no_more s t = record { place = i; so_far = s; bracket = t; ends = refl }
kinds_on {text = text} {at = at} {i = i} {m = m} (one_more {k} {ks} f g) s t =
    let behind = stands_behind (0x20 ∷ []) (kind_name k ++ kinds_bytes ks) t in
    let rest = stands_behind (kind_name k) (kinds_bytes ks) behind in
    let found =
    behind_space (stands_front (0x20 ∷ []) (kind_name k ++ kinds_bytes ks) t)
    (ends_word ks (name_word k) (stands_front (kind_name k) (kinds_bytes ks) behind) rest)
    in
    let r = kinds_on g (one_kind s found (name_kind k) f) rest in
    record {
      place = r.place;
      so_far = r.so_far;
      bracket = r.bracket;
      ends = omega (arith, r.ends, length-append (kind_name k) (kinds_bytes ks));
    }

-- ---- kinds by their bytes

-- one kind, which may come first and behind null
lone_kind
    : {text : Bytes} {at end : ℕ} (k : Kind) → Follows 0 (kind_bit k) true → Follows 1 (kind_bit k) true
    → has_bit (0 + kind_bit k) 32 ≡ false → has_bit (1 + kind_bit k) 32 ≡ false → 1 + kind_bit k < 128
    → StandsAt text at (kinds_bytes (k ∷ [])) → end ≡ at + length (kinds_bytes (k ∷ []))
    → KindsStand 0 text at (0 + kind_bit k) end × KindsStand 1 text at (1 + kind_bit k) end
lone_kind k f g a b l s e = (
  record { listed = k ∷ []; in_turn = one_more f no_more; stand = s; size = e; bare = a; small = omega arith },
  record { listed = k ∷ []; in_turn = one_more g no_more; stand = s; size = e; bare = b; small = l },
)

module _ {text : Bytes} {at x : ℕ} (t : EightTold text at x) where
  pub text_stands : x % 0x1000000000000 ≡ 0x297478657420 → KindsStand 0 text at 16 (at + 6) × KindsStand 1 text at 17 (at + 6)
  unfolding kinds_bytes kind_name bytes kind_bit low_value fits has_bit
  text_stands e =
      lone_kind Kind.text (other_kind (λ i. omega (arith, i))) (other_kind (λ i. omega (arith, i))) refl refl (omega arith)
      (t.is (0x20 ∷ 0x74 ∷ 0x65 ∷ 0x78 ∷ 0x74 ∷ 0x29 ∷ []) refl e) refl

  pub int_stands : x % 0x10000000000 ≡ 0x29746E6920 → KindsStand 0 text at 4 (at + 5) × KindsStand 1 text at 5 (at + 5)
  unfolding kinds_bytes kind_name bytes kind_bit low_value fits has_bit
  int_stands e =
      lone_kind Kind.int (other_kind (λ i. omega (arith, i))) (other_kind (λ i. omega (arith, i))) refl refl (omega arith)
      (t.is (0x20 ∷ 0x69 ∷ 0x6E ∷ 0x74 ∷ 0x29 ∷ []) refl e) refl

  pub bool_stands : x % 0x1000000000000 ≡ 0x296C6F6F6220 → KindsStand 0 text at 2 (at + 6) × KindsStand 1 text at 3 (at + 6)
  unfolding kinds_bytes kind_name bytes kind_bit low_value fits has_bit
  bool_stands e =
      lone_kind Kind.bool (other_kind (λ i. omega (arith, i))) (other_kind (λ i. omega (arith, i))) refl refl (omega arith)
      (t.is (0x20 ∷ 0x62 ∷ 0x6F ∷ 0x6F ∷ 0x6C ∷ 0x29 ∷ []) refl e) refl

  -- the bracket is the ninth byte
  pub dec_stands
      : x ≡ 0x63656420746E6920 → at + 8 < length text → get_or text (at + 8) 0 ≡ 0x29
      → KindsStand 0 text at 12 (at + 9) × KindsStand 1 text at 13 (at + 9)
  unfolding kinds_bytes kind_name bytes kind_bit low_value fits has_bit
  dec_stands e h i =
      let eight = t.is (0x20 ∷ 0x69 ∷ 0x6E ∷ 0x74 ∷ 0x20 ∷ 0x64 ∷ 0x65 ∷ 0x63 ∷ []) refl (mod-eq_of_lt t.small ∙ e) in
      let s = stands_then (0x20 ∷ 0x69 ∷ 0x6E ∷ 0x74 ∷ 0x20 ∷ 0x64 ∷ 0x65 ∷ 0x63 ∷ []) (0x29 ∷ []) eight (stands_byte h i) in (
        record {
          listed = Kind.int ∷ Kind.dec ∷ [];
          in_turn =
              one_more {n = 0} {k = Kind.int} (other_kind (λ j. omega (arith, j))) (one_more {n = 4} {k = Kind.dec} (dec_behind refl (omega arith)) no_more);
          stand = s;
          size = refl;
          bare = refl;
          small = omega arith;
        },
        record {
          listed = Kind.int ∷ Kind.dec ∷ [];
          in_turn =
              one_more {n = 1} {k = Kind.int} (other_kind (λ j. omega (arith, j))) (one_more {n = 5} {k = Kind.dec} (dec_behind refl (omega arith)) no_more);
          stand = s;
          size = refl;
          bare = refl;
          small = omega arith;
        },
      )

  pub shape_stands : x % 0x1000000000000 ≡ 0x657061687328 → StandsAt text at (0x28 ∷ shape_bytes)
  unfolding low_value fits
  shape_stands e = t.is (0x28 ∷ shape_bytes) refl e

  pub null_stands : x % 0x1000000000000 ≡ 0x296C6C756E20 → {end : ℕ} → end ≡ at + 6 → KindsStand 0 text at 1 end
  unfolding kinds_bytes kind_name bytes kind_bit low_value fits has_bit
  null_stands e i =
      record {
        listed = Kind.null ∷ [];
        in_turn = one_more {k = Kind.null} (other_kind (λ j. omega (arith, j))) no_more;
        stand = t.is (0x20 ∷ 0x6E ∷ 0x75 ∷ 0x6C ∷ 0x6C ∷ 0x29 ∷ []) refl e;
        size = i;
        bare = refl;
        small = omega arith;
      }

  -- null, and others behind it
  pub null_then
      : {m end : ℕ} → x % 0x10000000000 ≡ 0x6C6C756E20 → KindsStand 1 text (at + 5) m end → KindsStand 0 text at m end
  unfolding kinds_bytes kind_name bytes kind_bit low_value fits
  null_then e k =
      record {
        listed = Kind.null ∷ k.listed;
        in_turn = one_more {k = Kind.null} (other_kind (λ j. omega (arith, j))) k.in_turn;
        stand =
            stands_then (0x20 ∷ 0x6E ∷ 0x75 ∷ 0x6C ∷ 0x6C ∷ []) (kinds_bytes k.listed) (t.is (0x20 ∷ 0x6E ∷ 0x75 ∷ 0x6C ∷ 0x6C ∷ []) refl e) k.stand;
        size = omega (arith, k.size);
        bare = k.bare;
        small = k.small;
      }

-- ---- what was told of them

pub others_leaf
    : {text : Bytes} {at : ℕ} {r : Option Kinds} → StandsAt text at (0x28 ∷ shape_bytes) → OtherKinds text (at + 6) r → StandsLeaf text at r
others_leaf {text} {at} {r} s x = record { answer = pick r x.answer }
  where
    pick : (u : Option Kinds) → OthersAnswer text (at + 6) u → LeafAnswer text at u
    pick (Some k) a = (s, a.0)
    pick None a = tt

pub null_others
    : {text : Bytes} (at : ℕ) {x : ℕ} {k : Kinds} → EightTold text (at + 6) x → x % 0x10000000000 ≡ 0x6C6C756E20
    → OtherKinds text (at + 11) (Some k) → KindsStand 0 text (at + 6) (1 + k.kinds.kinds) k.end
null_others {text} at {k} t e x =
    null_then t e
    (subst (λ (j : ℕ). KindsStand 1 text j (1 + k.kinds.kinds) k.end) (let f : at + 11 ≡ at + 6 + 5 = omega arith in f) x.answer.1)

-- ---- the shape

closing_no_word : sort closing ≡ a_word → ⊥
unfolding sort
closing_no_word e = let z : ◌≡◌ {A = ℕ} 0 1 = ap is_word e in omega arith
  where
    is_word : Sort → ℕ
    is_word an_opening = 0
    is_word a_closing = 0
    is_word a_text = 0
    is_word a_word = 1
    is_word a_break = 0

leaf_found
    : {text : Bytes} (values left : ℕ) (c : Cursor) {place : ℕ} {set : Kinds} → JudgesFull values left c.begun false
    → Skips text c.at place → StandsAt text place (0x28 ∷ shape_bytes) → KindsStand 0 text (place + 6) set.kinds.kinds set.end
    → LeafFound text values left c set.kinds.kinds set.end
unfolding high
leaf_found {text} values left c {place} {set} j skipped s k =
    let bracket = behind_skipped skipped (opening_stands (stands_front (0x28 ∷ []) shape_bytes s)) in
    let named : Found text (place + 1) (word shape_bytes) (place + 1) (place + 1 + 5) =
    ends_word k.listed (high_word 0x73 (0x68 ∷ 0x61 ∷ 0x70 ∷ 0x65 ∷ []) refl) (stands_behind (0x28 ∷ []) shape_bytes s)
    (subst (λ (i : ℕ). StandsAt text i (kinds_bytes k.listed)) (let e : place + 6 ≡ place + 1 + 5 = omega arith in e) k.stand)
    in
    let begun =
    shape_begun values left c (record { answer = bracket }) (Ok (place + 6)) j
    (record {
      answer =
          (place + 1, subst (Found text (place + 1) (word shape_bytes) (place + 1)) (let e : place + 1 + 5 ≡ place + 6 = omega arith in e) named, omega arith);
    })
    in
    let kinds = kinds_on k.in_turn (no_kinds begun.answer.within) k.stand in
    let closed = closing_stands kinds.bracket in
    record {
      place = kinds.place;
      opens =
          (form_open c begun (Ok (record { kinds = set.kinds; end = kinds.place }))
          (record { answer = kinds_end kinds.so_far (another closing (tokens_from text (kinds.place + 1)) closed.run closing_no_word) })
          ).answer;
      closed = closed;
      ends = k.size ∙ kinds.ends;
      bare = k.bare;
    }

pub leaf_finds
    : {text : Bytes} (values left : ℕ) (c : Cursor) {place : ℕ} {r : Option Kinds} → JudgesFull values left c.begun false
    → Skips text c.at place → StandsLeaf text place r → FindsLeaf text values left c r
leaf_finds {text} values left c {place} {r} j skipped x = record { answer = pick r x.answer }
  where
    pick : (u : Option Kinds) → LeafAnswer text place u → FoundAnswer text values left c u
    pick (Some k) a = leaf_found values left c j skipped a.0 a.1
    pick None a = tt

-- its row is put
module _
    {left values : ℕ} {text : Bytes} {s p : List ℕ} (name : ℕ) (c : Cursor) {set : Kinds} (r₀ : Ready text s p values c)
    (x : FindsLeaf text values left c (Some set)) where
  f : LeafFound text values left c set.kinds.kinds set.end
  f = x.answer

  -- bounds for it
  pub leaf_bounds : (c.begun < values) × (c.begun < 32768) × (set.kinds.kinds < 128) × (2 * c.begun + 2 ≤ length s)
  leaf_bounds = (
    f.opens.begun,
    omega (arith, f.opens.begun, r₀.few),
    held_small f.opens.held,
    omega (arith, f.opens.begun, r₀.rows),
  )

  pub leaf_read
      : {s' : List ℕ} → s' ≡ with_row s c.begun (head_of set.kinds.kinds 2) name
      → ReadsForm left values text s p s' p name c (Ok (record { at = set.end; begun = c.begun + 1; top = c.top }))
  leaf_read {s'} g =
      let inner : Cursor = record { at = f.place; begun = c.begun + 1; top = c.top } in
      let opened : OpensForm text values left c (Ok (record { kinds = set.kinds; end = f.place })) = record { answer = f.opens } in
      let ready = inner_ready name c r₀ opened in
      let turn = shape_closed None p set.kinds.kinds inner (record { answer = f.closed }) refl in
      subst (λ (i : ℕ). ReadsForm left values text s p s' p name c (Ok (record { at = i; begun = c.begun + 1; top = c.top }))) (sym f.ends)
      (form_read name c r₀ opened (element_none inner ready refl f.bare)
      (last_turn inner inner (no_members (left - 1) set.kinds.kinds inner ready) turn refl)
      (g
      ∙ ap (λ (n : ℕ). with_row s c.begun (head_of set.kinds.kinds n) name)
      (let e : 2 ≡ 2 * (c.begun + 1 - c.begun) = omega arith in e)))
