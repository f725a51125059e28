-- How reading goes on from one part of a shape to the next, and what the tables then hold. Assumes nothing.
use Prim.Native.Nat.{ℕ, suc, ◌*◌, ◌≤◌}
use mathlib.Core.Path.{◌≡◌, sym, ap, ◌∙◌}
use mathlib.Core.List.{List, [], ◌++◌, append_assoc, append-nil}
use native.Mathlib.Omega.{arith}
use lib.ListN.{take, drop, length-append, take-append-drop}
use lib.Seq.{take-take}
use Rattle.definitions.specs.declared.Limits.{Limits}
use Rattle.definitions.specs.Bytes.{Bytes}
use Rattle.definitions.specs.ShapeText.{Parts, Around, as_element, as_member, depth}
use Rattle.reading.specs.declared.Cursor.{Cursor}
use Rattle.shape_reader.specs.ShapeParts.{Limited, Moves, Ready, Goes, Sized}

-- ---- going on

pub moves_then : {text : Bytes} {a b c : Cursor} → Moves text a b → Moves text b c → Moves text a c
moves_then m k =
    record {
      ahead = omega (arith, m.ahead, k.ahead);
      within = k.within;
      grows = omega (arith, m.grows, k.grows);
      room = omega (arith, m.room, k.room);
    }

pub goes_then
    : {values : ℕ} {text : Bytes} {s p s' p' s'' p'' : List ℕ} {a b c : Cursor} {rs qs : List ℕ}
    → Goes values text s p s' p' a b rs → Goes values text s' p' s'' p'' b c qs → Goes values text s p s'' p'' a c (rs ++ qs)
goes_then {s} {p} {p'} {p''} {a} {b} {rs} {qs} g h =
    record {
      table =
          h.table
          ∙ ap (λ (t : List ℕ). t ++ qs) g.table
          ∙ append_assoc (take (2 * a.begun) s) rs qs;
      counted = omega (arith, g.counted, h.counted, length-append rs qs);
      limit = h.limit;
      front =
          sym (take-take a.top b.top p'' g.moves.grows)
          ∙ ap (λ (t : List ℕ). take a.top t) h.front
          ∙ take-take a.top b.top p' g.moves.grows
          ∙ g.front;
      moves = moves_then g.moves h.moves;
    }

-- no row more
pub goes_alone
    : {values : ℕ} {text : Bytes} {s p p' : List ℕ} {a b : Cursor} → b.begun ≡ a.begun → a.begun ≤ values
    → take a.top p' ≡ take a.top p → Moves text a b → Goes values text s p s p' a b []
goes_alone {s} {a} e h f m =
    record {
      table = ap (λ (n : ℕ). take (2 * n) s) e ∙ sym (append-nil (take (2 * a.begun) s));
      counted = omega (arith, e);
      limit = omega (arith, e);
      front = f;
      moves = m;
    }

pub sized_then : {s p s' p' s'' p'' : List ℕ} → Sized s p s' p' → Sized s' p' s'' p'' → Sized s p s'' p''
sized_then a b = record { shapes_kept = b.shapes_kept ∙ a.shapes_kept; pool_kept = b.pool_kept ∙ a.pool_kept }

pub ready_then
    : {text : Bytes} {s p s' p' rs : List ℕ} {values : ℕ} {a b : Cursor} → Ready text s p values a
    → Goes values text s p s' p' a b rs → Sized s p s' p' → Ready text s' p' values b
ready_then r g z =
    record {
      placed =
          record {
            short = r.placed.short;
            within = g.moves.within;
            texts = omega (arith, r.placed.texts, g.moves.room, z.pool_kept);
            small = omega (arith, r.placed.small, g.moves.room);
          };
      rows = omega (arith, r.rows, z.shapes_kept);
      few = r.few;
      limit = g.limit;
    }

-- the pool that is used then goes on from what was used
pub grown : (p p' : List ℕ) (a b : ℕ) → take a p' ≡ take a p → a ≤ b → take b p' ≡ take a p ++ drop a (take b p')
grown p p' a b e h =
    sym (take-append-drop a (take b p')) ∙ ap (λ (t : List ℕ). t ++ drop a (take b p')) (take-take a b p' h ∙ e)

-- ---- nesting

pub in_element : {l : Limits} {o : Around} {values left : ℕ} (q : Parts) → Limited l o values (suc left) → Limited l (as_element q o) values left
unfolding depth
in_element q a = record { most = a.most; nests = omega (arith, a.nests) }

pub in_member
    : {l : Limits} {o : Around} {values left : ℕ} (q : Parts) (n : Bytes) → Limited l o values (suc left)
    → Limited l (as_member q n o) values left
unfolding depth
in_member q n a = record { most = a.most; nests = omega (arith, a.nests) }
