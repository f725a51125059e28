-- Answers for the names and the brackets of members. Assumes nothing.
use Prim.Native.Nat.{ℕ, ◌+◌, ◌/◌, ◌%◌, ◌≤◌, ◌<◌, Ordering}
use mathlib.Core.Path.{◌≡◌, refl, sym, ap, ap₂, ◌∙◌, subst}
use mathlib.Core.Bool.{Bool, true, false}
use mathlib.Core.List.{List}
use native.Mathlib.Omega.{arith}
use lib.ListN.{length, take}
use Rattle.definitions.specs.declared.Limits.{Limits}
use Rattle.definitions.specs.Bytes.{Bytes, order}
use Rattle.definitions.specs.Shape.{Kind, Element, Fields, field, before}
use Rattle.definitions.specs.Tokens.{opening, closing, word, want_close, want_text, where_true}
use Rattle.definitions.specs.ShapeText.{Parts, Around, member_open, member_word, member_name, member_close, want, name_fits, want_step, member_step}
use Rattle.pool.specs.Pool.{text_in, ordering_of}
use Rattle.std.specs.declared.cmp.Ordering as cmp
use Rattle.std.specs.declared.cmp.Ordering.TheVariants as ordering
use Rattle.std.specs.Ordering.{is_lt}
use Rattle.std.specs.Prelude as std
use Rattle.std.specs.Prelude.{Result, Ok, Err, Some, None}
use Rattle.reading.specs.declared.Cause.TheVariants.{FormSyntax}
use Rattle.reading.specs.declared.Cursor.{Cursor}
use Rattle.reading.specs.declared.Refusal.{Refusal}
use Rattle.nodes.specs.Nodes.{reference}
use Rattle.nodes.specs.StandingLaws.{text_refers, text_referred_front}
use Rattle.shapes.specs.Shapes.{has_bit}
use Rattle.tokens.specs.declared.expect.Quoted.{Quoted}
use Rattle.tokens.specs.declared.expect.Bracket.TheVariants as BracketIs
use Rattle.tokens.specs.declared.expect.Bracket.{Bracket}
use Rattle.tokens.specs.TokenRead.{Found}
use Rattle.shape_reader.specs.declared.members.Turn.{Turn}
use Rattle.shape_reader.specs.declared.members.Turn.TheVariants.{More, End}
use Rattle.tokens.specs.Expecting.{a_closing, a_text, Kept, TextPlaced, ExpectsClosing, BracketsAnswer}
use Rattle.tokens.specs.Expecting.{ExpectsBracket, ExpectsText}
use Rattle.shape_reader.specs.ShapeParts.{reading, member_bytes, Expects, KindsHeld, parts, Latest, none_yet}
use Rattle.shape_reader.specs.ShapeParts.{latest_is, ReadsName, NamesAnswer, NamesMember, TurnIs, Turns, ClosesMember}
use Rattle.shape_reader.proofs.Steps.{goes_on, misplaced_found, lacking, lacking_both, only_member, member_goes}
use Rattle.shape_reader.proofs.KindSets.{has_rec_kind}
use Rattle.tokens.specs.ReadingLaws.{no_closing, no_text, placed_on, as_misplaced}

-- ---- names in order

pub first_fits
    : {p : List ℕ} (n : Bytes) {latest : std.Option ℕ} → latest ≡ None → (fs : Fields) → Latest p fs latest → true ≡ name_fits fs n
unfolding name_fits
first_fits {p} n e fs h = pick fs (subst (Latest p fs) e h)
  where
    pick : (fs : Fields) → Latest p fs None → true ≡ name_fits fs n
    pick fs none_yet = refl

before_less : (x : cmp.Ordering) (m n : Bytes) → ordering_of x ≡ order m n → before m n ≡ is_lt x
unfolding before ordering_of
before_less ordering.Less m n e = ap (λ (o : Ordering). elim o [ Ordering.lt ↦ true | Ordering.eq ↦ false | Ordering.gt ↦ false ]) (sym e)
before_less ordering.Equal m n e = ap (λ (o : Ordering). elim o [ Ordering.lt ↦ true | Ordering.eq ↦ false | Ordering.gt ↦ false ]) (sym e)
before_less ordering.Greater m n e = ap (λ (o : Ordering). elim o [ Ordering.lt ↦ true | Ordering.eq ↦ false | Ordering.gt ↦ false ]) (sym e)

pub compared_fits
    : (pool : List ℕ) (w n : ℕ) {latest : std.Option ℕ} {k v m : ℕ} (x : cmp.Ordering) {b : Bool} → latest ≡ Some k
    → w ≤ length pool → w < 65536 → v ≡ k % 65536 → m ≡ k / 65536
    → ordering_of x ≡ order (text_in pool v m) (text_in pool w n) → b ≡ is_lt x
    → (fs : Fields) → Latest (take w pool) fs latest → b ≡ name_fits fs (text_in pool w n)
unfolding name_fits
compared_fits pool w n {k} {v} {m} x {b} f h l p q e g fs i = pick fs (subst (Latest (take w pool) fs) f i)
  where
    pick : (fs : Fields) → Latest (take w pool) fs (Some k) → b ≡ name_fits fs (text_in pool w n)
    pick Rattle.definitions.specs.Shape.no_fields j = elim j [ ]
    pick (field t s fs) (latest_is r) =
        g
        ∙ sym (before_less x t (text_in pool w n)
        (e ∙ ap (λ (u : Bytes). order u (text_in pool w n)) (ap₂ (text_in pool) p q ∙ text_referred_front pool w h l r)))

-- ---- a name

module _ {text : Bytes} {at : ℕ} where
  pub no_member_word : {top : ℕ} {p : List ℕ} {r : Refusal} → Expects text at member_bytes (Err r) → ReadsName text p p at top (Err r)
  no_member_word x =
      record { answer = (x.answer.0, λ l k q o. x.answer.1 l k (member_word q o) (only_member q o)); kept = record { size = refl; front = refl } }

  module _ {behind : ℕ} (x : Expects text at member_bytes (Ok behind)) where
    there : (place : ℕ) × Found text at (word member_bytes) place behind × (place + length member_bytes ≡ behind)
    there = x.answer

    pub name_room : {p : List ℕ} {top : ℕ} → TextPlaced text p at top → TextPlaced text p behind top
    name_room r = placed_on r (omega (arith, there.1.from, there.1.ahead)) there.1.within

    to_name
        : (l : Limits) (k : ℕ) (q : Parts) (o : Around)
        → reading l k text (want (member_word q o)) at ≡ reading l k text (want (member_name q o)) behind
    to_name l k q o = goes_on l k (member_word q o) there.1 (member_goes q o)

    pub a_name
        : {top : ℕ} {p p' : List ℕ} (r : Result Quoted Refusal) → ExpectsText text behind p p' top r → ReadsName text p p' at top r
    unfolding want_step want_text where_true
    a_name (Ok s) y =
        let t = y.answer in
        record {
          answer =
              record {
                fits = λ l k q o h. to_name l k q o ∙ goes_on l k (member_name q o) t.found (rw h);
                misfits = λ l k q o h. to_name l k q o ∙ misplaced_found l k (member_name q o) t.found (rw h);
                size = t.size;
                room = t.room;
                longer = omega (arith, there.1.from, there.2, t.found.from, t.shorter);
                within = t.found.within;
              };
          kept = y.kept;
        }
    a_name (Err r) y =
        record {
          answer = (
            y.answer.cause,
            λ l k q o. to_name l k q o ∙ lacking l k (member_name q o) a_text y.answer (λ t h. no_text t _ h),
          );
          kept = y.kept;
        }

-- ---- a member up to its shape

module _ (latest : std.Option ℕ) {at : ℕ} {text : Bytes} {p₀ p : List ℕ} (c : Cursor) (r₀ : TextPlaced text p₀ at c.top × (c.at < at)) where
  pub name_refused : {r : Refusal} → ReadsName text p₀ p at c.top (Err r) → NamesMember latest text p₀ p at c (Err r)
  name_refused x = record { answer = λ q h l n o. x.answer.1 l n q o; kept = x.kept }

  module _ {s : Quoted} (x : ReadsName text p₀ p at c.top (Ok s)) where
    pub name_small : (c.top < 65536) × (s.bytes ≤ 65536)
    name_small = (omega (arith, r₀.0.small, r₀.0.within), omega (arith, x.answer.longer, x.answer.within, r₀.0.short))

    module _ {b : Bool} (f : (fs : Fields) → Latest (take c.top p) fs latest → b ≡ name_fits fs (text_in p c.top s.bytes)) where
      -- the members before stand in what is kept of the pool
      fits_before : (fs : Fields) → Latest (take c.top p₀) fs latest → b ≡ name_fits fs (text_in p c.top s.bytes)
      fits_before fs h = f fs (subst (λ (q : List ℕ). Latest q fs latest) (sym x.kept.front) h)

      pub name_late
          : {r : Refusal} → b ≡ false → r.place ≡ s.place → r.cause ≡ FormSyntax → NamesMember latest text p₀ p at c (Err r)
      name_late g i j =
          record {
            answer = λ q h l k o. x.answer.misfits l k q o (sym (fits_before q.fields h) ∙ g) ∙ as_misplaced i j;
            kept = x.kept;
          }

      pub name_taken
          : {name : ℕ} → b ≡ true → name ≡ reference c.top s.bytes
          → NamesMember latest text p₀ p at c (Ok (More (record { at = s.end; begun = c.begun; top = c.top + (s.bytes + 7) / 8 }) name))
      name_taken {name} g i =
          let y = x.answer in
          record {
            answer =
                record {
                  bytes = text_in p c.top s.bytes;
                  run = λ q h l k o. y.fits l k q o (sym (fits_before q.fields h) ∙ g);
                  refers = rw i (text_refers p c.top s.bytes y.size y.room);
                  begun = refl;
                  moves =
                      record {
                        ahead = omega (arith, r₀.1, y.longer);
                        within = y.within;
                        grows = omega arith;
                        room = omega (arith, r₀.1, y.longer);
                      };
                  further = omega (arith, r₀.1, y.longer);
                };
            kept = x.kept;
          }

-- ---- a member, or the bracket that ends the shape

pool_kept : {p : List ℕ} {w : ℕ} → Kept p p w
pool_kept = record { size = refl; front = refl }

module _ (latest : std.Option ℕ) {text : Bytes} (p : List ℕ) (kinds : ℕ) (c : Cursor) where
  pub shape_closed
      : {b : Bracket} {at : ℕ} → ExpectsBracket text c.at (Ok b) → b ≡ BracketIs.Closing at
      → Turns latest text p p kinds c (Ok (End (record { at = at + 1; begun = c.begun; top = c.top })))
  unfolding want_step member_step
  shape_closed {at} x e =
      let f : Found text c.at closing at (at + 1) = subst (λ (b : Bracket). BracketsAnswer text c.at (Ok b)) e x.answer in
      record {
        answer =
            record {
              run = λ ks el fs h i l n o. goes_on l n (member_open (parts ks el fs) o) f refl;
              begun = refl;
              top = refl;
              ahead = omega (arith, f.from);
              within = f.within;
            };
        kept = pool_kept;
      }

  pub neither_bracket : {r : Refusal} → ExpectsBracket text c.at (Err r) → Turns latest text p p kinds c (Err r)
  neither_bracket x =
      let (h, h') = x.answer in
      record { answer = λ ks el fs g m l n o. lacking_both l n (parts ks el fs) o h h'; kept = pool_kept }

  module _ {b : Bracket} {at : ℕ} (x : ExpectsBracket text c.at (Ok b)) (e : b ≡ BracketIs.Opening at) where
    opened : Found text c.at opening at (at + 1)
    opened = subst (λ (b : Bracket). BracketsAnswer text c.at (Ok b)) e x.answer

    pub no_record
        : {b : Bool} {r : Refusal} → b ≡ has_bit kinds 64 → b ≡ false → r.place ≡ at → r.cause ≡ FormSyntax
        → Turns latest text p p kinds c (Err r)
    unfolding want_step member_step where_true
    no_record g h i j =
        record {
          answer = λ ks el fs k m l n o.
              misplaced_found l n (member_open (parts ks el fs) o) opened (rw (sym (has_rec_kind k) ∙ sym g ∙ h)) ∙ as_misplaced i j;
          kept = pool_kept;
        }

    pub member_opened
        : {p' : List ℕ} {b : Bool} {t : Result Turn Refusal} → b ≡ has_bit kinds 64 → b ≡ true → NamesMember latest text p p' (at + 1) c t
        → Turns latest text p p' kinds c t
    unfolding want_step member_step where_true
    member_opened {p'} {t} g h y = record { answer = pick t y.answer; kept = y.kept }
      where
        to_word
            : (ks : List Kind) (el : Element) (fs : Fields) → KindsHeld ks kinds → (l : Limits) (n : ℕ) (o : Around)
            → reading l n text (want (member_open (parts ks el fs) o)) c.at
            ≡ reading l n text (want (member_word (parts ks el fs) o)) (at + 1)
        to_word ks el fs k l n o =
            goes_on l n (member_open (parts ks el fs) o) opened (rw (sym (has_rec_kind k) ∙ sym g ∙ h))

        pick : (u : Result Turn Refusal) → NamesAnswer latest text p p' (at + 1) c u → TurnIs latest text p p' kinds c u
        pick (Ok (More to name)) z =
            record {
              bytes = z.bytes;
              run = λ ks el fs k m l n o. to_word ks el fs k l n o ∙ z.run (parts ks el fs) m l n o;
              refers = z.refers;
              has_rec = sym g ∙ h;
              begun = z.begun;
              moves = z.moves;
              further = z.further;
            }
        pick (Ok (End to)) z = absurd z
        pick (Err r) z = λ ks el fs k m l n o. to_word ks el fs k l n o ∙ z (parts ks el fs) m l n o

-- ---- behind a member's shape

module _ (c : Cursor) {text : Bytes} where
  pub member_unclosed : {r : Refusal} → ExpectsClosing text c.at (Err r) → ClosesMember text c (Err r)
  unfolding want_step
  member_unclosed x = record { answer = λ q l n o. lacking l n (member_close q o) a_closing x.answer (λ t h. no_closing t _ h) }

  pub member_closed
      : {at : ℕ} → ExpectsClosing text c.at (Ok at) → ClosesMember text c (Ok (record { at = at + 1; begun = c.begun; top = c.top }))
  unfolding want_step want_close
  member_closed x =
      record {
        answer =
            record {
              run = λ q l n o. goes_on l n (member_close q o) x.answer refl;
              begun = refl;
              top = refl;
              further = omega (arith, x.answer.from);
              within = x.answer.within;
            };
      }
