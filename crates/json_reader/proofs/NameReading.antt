-- Answers for a name and its colon. Assumes nothing.
use Prim.Native.Nat.{ℕ, ◌+◌, ◌-◌, ◌*◌, ◌/◌, ◌^◌, ◌≤◌, ◌<◌}
use mathlib.Core.Path.{◌≡◌, refl, sym, ap, ◌∙◌, subst}
use mathlib.Core.Bool.{Bool, true, false}
use mathlib.Core.List.{List, [], ◌∷◌}
use native.Mathlib.Omega.{arith}
use borrow.Author.Tests.{ne_eqb}
use lib.Bits.{bit_or}
use lib.ListN.{length, take, drop, get_or}
use Rattle.std.specs.Prelude.{Result, Ok, Err, IsErrAnd, MatchResult}
use Rattle.std.proofs.lemmas.Result.{err_from_is_err_and}
use Rattle.definitions.specs.declared.Limits.{Limits}
use Rattle.definitions.specs.Bytes.{Bytes, look, between, is, white, white_table, found}
use Rattle.definitions.specs.Outcome.{refused}
use Rattle.definitions.specs.Text.{Inside}
use Rattle.definitions.specs.Value.{Members, no_members, members_onto, has_name}
use Rattle.definitions.specs.Json.{Open, in_rec, Gap, as_name, gap, in_text, broken, name_move, token_move, gap_move, gap_end, move, close_move, judge, scan}
use Rattle.pool.specs.Pool.{words, text_in}
use Rattle.pool.specs.PoolLaws.{bytes_words}
use Rattle.nodes.specs.Nodes.{reference, MemberRows}
use Rattle.nodes.specs.NodesLaws.{members_read, has_name_read}
use Rattle.nodes.specs.StandingLaws.{text_refers}
use Rattle.text.specs.TextLaws.{scan_broke, scan_ended}
use Rattle.text.specs.declared.Decoded.{Decoded}
use Rattle.text.specs.TextRead.{ReadsText, TextClosed, TextBroken}
use Rattle.reading.specs.declared.Cursor.{Cursor}
use Rattle.reading.specs.declared.Cause.TheVariants.{JsonSyntax, DuplicateName}
use Rattle.reading.specs.declared.Refusal.{Refusal}
use Rattle.json_reader.specs.JsonParts.{Skips, Token, NamedRows, Walkable, MembersAt, name_place, Covers, covers_none, NameReady, ReadsName, ColonAnswer}
use Rattle.json_reader.proofs.Kept.{scan_kept}
use Rattle.json_reader.proofs.Seen.{covers_onto, covers_with}
use Rattle.json_reader.proofs.Scan.{byte_inside, byte_here, scan_broken}

-- the refusal where a text breaks off
abbrev pub broken_at : ℕ → Refusal
broken_at place = record { cause = JsonSyntax; place = place }

-- s is the text r, or that refusal
abbrev pub BrokenAt : Result Decoded ℕ → Result Decoded Refusal → Type 0
BrokenAt r s = MatchResult r (λ y. s ≡ Ok y) (λ place. IsErrAnd s (λ q. q ≡ broken_at place))

-- ---- reading

-- the opening quote of a name; from here on its place is kept
name_begins
    : (l : Limits) (n : ℕ) (kept r : Bytes) (ms : Members) (o : Open)
    → scan l n kept (gap (Gap.next_name ms o)) (0x22 ∷ r) ≡ scan l n (0x22 ∷ r) (in_text (as_name ms o) Inside.chars []) r
unfolding scan judge move gap_move token_move name_move white white_table found look between is
name_begins l n kept r ms o = refl

-- the closing quote
name_ends
    : (l : Limits) (n : ℕ) (kept r t : Bytes) (ms : Members) (o : Open)
    → judge l n kept (0x22 ∷ r) (close_move (as_name ms o) t) (λ n' kept' q'. scan l n' kept' q' r)
    ≡ elim (has_name t ms) [ true ↦ refused 5 kept | false ↦ scan l n kept (gap (Gap.colon ms t o)) r ]
unfolding judge close_move
name_ends l n kept r t ms o = refl

-- the colon
colon_read
    : (l : Limits) (n : ℕ) (kept r t : Bytes) (ms : Members) (o : Open)
    → scan l n kept (gap (Gap.colon ms t o)) (0x3A ∷ r) ≡ scan l n kept (gap (Gap.value (in_rec ms t o))) r
unfolding scan judge move gap_move token_move white white_table found look between is
colon_read l n kept r t ms o = refl

name_missing
    : (ms : Members) (o : Open) (b : ℕ) → (b ≡ 0x22 → ⊥)
    → (gap_end (Gap.next_name ms o) ≡ broken) × (token_move (Gap.next_name ms o) b ≡ broken)
unfolding gap_end token_move name_move is
name_missing ms o b h = (refl, rw (ne_eqb b 0x22 h, name_move))

colon_missing
    : (t : Bytes) (ms : Members) (o : Open) (b : ℕ) → (b ≡ 0x3A → ⊥)
    → (gap_end (Gap.colon ms t o) ≡ broken) × (token_move (Gap.colon ms t o) b ≡ broken)
unfolding gap_end token_move is
colon_missing t ms o b h = (refl, rw (ne_eqb b 0x3A h, token_move))

-- ---- the members before

-- their rows can be walked in a pool that has grown
pub members_named
    : {nodes pool pool' : List ℕ} {first : ℕ} (c : Cursor) {ms : Members} → c.top ≤ length pool' → c.top < 65536
    → take c.top pool' ≡ take c.top pool → MembersAt nodes pool first c ms
    → NamedRows nodes pool' (3 * first) (3 * c.begun) (members_onto ms no_members)
members_named {nodes} {pool} {pool'} {first} c {ms} h few front m =
    record {
      used = c.top;
      within = h;
      few = few;
      held =
          subst (λ (p : List ℕ). MemberRows p (members_onto ms no_members) (drop (3 * first) (take (3 * c.begun) nodes))) (sym front)
          (subst (λ (rs : List ℕ). MemberRows (take c.top pool) (members_onto ms no_members) rs) (sym m.table) (members_read m.held));
    }

module _ {doc nodes pool : List ℕ} {first : ℕ} (c : Cursor) (p : NameReady doc nodes pool first c) where
  pub few_used : c.top < 65536
  few_used = p.ready.placed.small

  pub used_within : c.top ≤ length pool
  used_within = p.ready.used

  pub walkable
      : {pool' : List ℕ} → length pool' ≡ length pool → take c.top pool' ≡ take c.top pool
      → Walkable nodes pool' (3 * first) (3 * c.begun)
  walkable same front =
      record {
        members = members_onto p.members no_members;
        named = members_named c (omega (arith, used_within, same)) few_used front p.before;
        ordered = omega (arith, p.ordered);
        within = omega (arith, p.ready.placed.rows, p.ready.placed.limit);
      }

-- ---- the text of the name, or why there is none

module _ {doc pool pool' : List ℕ} {at w : ℕ} {s : Result Decoded Refusal} where
  pub text_closed
      : (r : Result Decoded ℕ) {d : Decoded} → ReadsText doc at pool pool' w r → BrokenAt r s → s ≡ Ok d
      → TextClosed doc at pool' w d.end d.length d.written
  text_closed (Ok y) {d} t m e =
      let same : y ≡ d = cc in subst (λ (x : Decoded). TextClosed doc at pool' w x.end x.length x.written) same t.answer
  text_closed (Err place) t m e = let p = err_from_is_err_and s m in let q = p.1 in let z : ⊥ = cc in absurd z

  pub text_wrong
      : (r : Result Decoded ℕ) {q : Refusal} → ReadsText doc at pool pool' w r → BrokenAt r s → s ≡ Err q
      → (q.cause ≡ JsonSyntax) × TextBroken doc at q.place
  text_wrong (Ok y) t m e = let z : ⊥ = cc in absurd z
  text_wrong (Err place) {q} t m e =
      let p = err_from_is_err_and s m in
      let named = p.1 in
      let made = p.2 in
      let same : broken_at place ≡ q = cc in
      subst (λ (x : Refusal). (x.cause ≡ JsonSyntax) × TextBroken doc at x.place) same (refl, t.answer)

-- ---- answers

module _ {doc nodes pool : List ℕ} {first at : ℕ} (c : Cursor) (p : NameReady doc nodes pool first c) (s : Skips doc c.at at) where
  pub no_name : {seen : ℕ} → (get_or doc at 256 ≡ 0x22 → ⊥) → ReadsName doc nodes pool pool first seen c (Err (record { cause = JsonSyntax; place = at }))
  no_name h =
      record {
        answer =
            record {
              run = λ ms m covered l n kept o.
                  let miss = name_missing ms o (get_or doc at 256) h in
                  s.run l n kept (Gap.next_name ms o) ∙ scan_broken l n kept doc at (Gap.next_name ms o) miss.0 s.stops miss.1;
              within = s.within;
              caused = refl;
            };
        pool_kept = refl;
      }

  begins
      : get_or doc at 256 ≡ 0x22 → (ms : Members) (l : Limits) (n : ℕ) (kept : Bytes) (o : Open)
      → scan l n kept (gap (Gap.next_name ms o)) (drop c.at doc)
      ≡ scan l n (drop at doc) (in_text (as_name ms o) Inside.chars []) (drop (at + 1) doc)
  begins e ms l n kept o =
      let here : drop at doc ≡ 0x22 ∷ drop (at + 1) doc = byte_here doc at e (omega arith) in
      s.run l n kept (Gap.next_name ms o)
      ∙ ap (λ (r : Bytes). scan l n kept (gap (Gap.next_name ms o)) r) here
      ∙ name_begins l n kept (drop (at + 1) doc) ms o
      ∙ ap (λ (r : Bytes). scan l n r (in_text (as_name ms o) Inside.chars []) (drop (at + 1) doc)) (sym here)

  module _ {pool' : List ℕ} (e : get_or doc at 256 ≡ 0x22) (same : length pool' ≡ length pool) where
    pub name_broken
        : {r : Refusal} {seen : ℕ} → (r.cause ≡ JsonSyntax) × TextBroken doc (at + 1) r.place
        → ReadsName doc nodes pool pool' first seen c (Err r)
    name_broken {r} (u, t) =
        record {
          answer =
              record {
                run = λ ms m covered l n kept o.
                    begins e ms l n kept o
                    ∙ rw u
                    (scan_broke l n (drop at doc) (as_name ms o) Inside.chars [] (drop (at + 1) doc) (drop r.place doc) t.run);
                within = t.within;
                caused = rw u;
              };
          pool_kept = same;
        }

    module _
        {end k w seen : ℕ} {found_now : Bool} (front : take c.top pool' ≡ take c.top pool)
        (t : TextClosed doc (at + 1) pool' c.top end k w)
        (f : (ms : Members) → NamedRows nodes pool' (3 * first) (3 * c.begun) ms → Covers seen ms → found_now ≡ has_name (text_in pool' c.top k) ms) where
      judged
          : (ms : Members) → MembersAt nodes pool first c ms → Covers seen ms → (l : Limits) (n : ℕ) (kept : Bytes) (o : Open)
          → scan l n kept (gap (Gap.next_name ms o)) (drop c.at doc)
          ≡ elim found_now [
            | true ↦ refused 5 (drop at doc)
            | false ↦ scan l n (drop at doc) (gap (Gap.colon ms (text_in pool' c.top k) o)) (drop end doc)
          ]
      judged ms m covered l n kept o =
          begins e ms l n kept o
          ∙ scan_ended l n (drop at doc) (as_name ms o) Inside.chars [] (drop (at + 1) doc) (text_in pool' c.top k) (drop end doc) t.run
          ∙ name_ends l n (drop at doc) (drop end doc) (text_in pool' c.top k) ms o
          ∙ ap (λ (b : Bool). elim b [
            | true ↦ refused 5 (drop at doc)
            | false ↦ scan l n (drop at doc) (gap (Gap.colon ms (text_in pool' c.top k) o)) (drop end doc)
          ])
          (sym
          (f (members_onto ms no_members) (members_named c (omega (arith, used_within c p, same)) (few_used c p) front m)
          (covers_onto ms covered covers_none)
          ∙ has_name_read (text_in pool' c.top k) ms))

      pub name_twice : found_now ≡ true → ReadsName doc nodes pool pool' first seen c (Err (record { cause = DuplicateName; place = at }))
      name_twice g =
          record {
            answer = record { run = λ ms m covered l n kept o. judged ms m covered l n kept o ∙ rw g; within = s.within; caused = refl };
            pool_kept = same;
          }

      pub no_colon
          : {r : Refusal} → found_now ≡ false → ColonAnswer doc end (Err r) → ReadsName doc nodes pool pool' first seen c (Err r)
      no_colon {r} g (e, q) =
          record {
            answer =
                record {
                  run = λ ms m covered l n kept o.
                      let miss = colon_missing (text_in pool' c.top k) ms o (get_or doc r.place 256) q.first in
                      judged ms m covered l n kept o
                      ∙ rw (g, e)
                      (q.skips.run l n (drop at doc) (Gap.colon ms (text_in pool' c.top k) o)
                      ∙ scan_broken l n (drop at doc) doc r.place (Gap.colon ms (text_in pool' c.top k) o) miss.0 q.skips.stops miss.1);
                  within = q.skips.within;
                  caused = rw e;
                };
            pool_kept = same;
          }

      pub name_read
          : {next word place x : ℕ} → place ≡ name_place (text_in pool' c.top k) → x ≡ 1 * 2 ^ place → found_now ≡ false
          → Token doc end 0x3A next → word ≡ reference c.top k
          → ReadsName doc nodes pool pool' first seen c
          (Ok (record {
            to = record { at = next; begun = c.begun; top = c.top + (k + 7) / 8 };
            word = word;
            written = w;
            seen = bit_or seen x;
          }))
      name_read {next} {word} at_bit bit g q u =
          record {
            answer =
                record {
                  name = text_in pool' c.top k;
                  run = λ ms m covered l n kept o.
                      judged ms m covered l n kept o
                      ∙ rw g
                      (q.run l n (drop at doc) (Gap.colon ms (text_in pool' c.top k) o)
                      ∙ colon_read l n (drop at doc) (drop next doc) (text_in pool' c.top k) ms o
                      ∙ scan_kept l (drop at doc) kept n (Gap.value (in_rec ms (text_in pool' c.top k) o)) (drop next doc));
                  refers = rw u (text_refers pool' c.top k t.size t.room);
                  wrote = t.written;
                  covers = λ v cs. covers_with v at_bit bit cs;
                  front = front;
                  moves =
                      record {
                        ahead = omega (arith, s.from, t.shorter, q.ahead);
                        within = q.within;
                        begun = refl;
                        grows = omega arith;
                        room = omega (arith, s.from, t.shorter, q.ahead);
                        short = omega (arith, s.from, t.bounded, q.ahead);
                      };
                };
            pool_kept = same;
          }

-- the pool has room for the name
pub name_room
    : {doc nodes pool : List ℕ} {first at : ℕ} (c : Cursor) → NameReady doc nodes pool first c → Skips doc c.at at
    → get_or doc at 256 ≡ 0x22
    → (at + 1 ≤ length doc) × (c.top + words (length doc - (at + 1)) ≤ length pool)
name_room {doc} {pool} {at} c p s e =
    let inside : at < length doc = byte_inside doc at e (omega arith) in
    let r = p.ready in (
      omega arith,
      bytes_words c.top (length doc - (at + 1)) (length pool)
          (omega (arith, p.spare, r.texts, r.placed.limit, r.placed.within, s.from)),
    )
