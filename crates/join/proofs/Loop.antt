-- The loop that joins the members of two shapes in place: what its turns ask and leave, from its invariant. Assumes nothing.
use Prim.Native.Nat.{ℕ, ◌+◌, ◌-◌, ◌*◌, ◌≤◌, ◌<◌}
use native.Mathlib.Omega.{arith}
use mathlib.Core.Path.{◌≡◌}
use mathlib.Core.List.{List}
use lib.ListN.{length}
use Rattle.definitions.specs.Shape.{Fields, forms_fields}
use Rattle.std.specs.declared.cmp.Ordering.{Ordering}
use Rattle.shapes.specs.Shapes.{size_at}
use Rattle.shapes.specs.ShapesLaws.{fields_end, fields_within}
use Rattle.std.specs.Prelude.{Some, None}
use Rattle.join.specs.Replacing.{Put, Over}
use Rattle.join.specs.Merge.{merge}
use Rattle.join.specs.Joining.{Walks, Next, TellsNext, MemberRows, passed_words, Mergeable, Turns, Turned}
use Rattle.join.proofs.Merging.{Merging, merging_end, merging_walks, merging_full, merging_on, merging_less}

-- the invariant: all members that stood in the tables at first are joined so far
abbrev pub Underway
    : (shapes₀ second pool : List ℕ) (used row end other to left : ℕ) (shapes : List ℕ) (words i j : ℕ) → Type 0
Underway shapes₀ second pool used row end other to left shapes words i j =
    (p : List ℕ) (fs gs : Fields) → Walks shapes₀ second pool p used row end other to left fs gs
    → Merging shapes₀ second pool used row to left p fs gs shapes words i j

-- where the loop stands in the tables, and how far it can go
pub record Bounds (shapes₀ second : List ℕ) (used end to : ℕ) (shapes : List ℕ) (words i j : ℕ) : Type 0 where
  pub first : i ≤ end + words
  pub within : end ≤ used
  pub room : used + words ≤ 65536
  pub other : j ≤ to
  pub there : to ≤ length second
  pub same : length shapes ≡ length shapes₀

module _
    {shapes₀ second pool : List ℕ} {used row end other to left : ℕ} {shapes : List ℕ} {words i j : ℕ}
    (w : Mergeable shapes₀ second pool used row end other to left)
    (inv : Underway shapes₀ second pool used row end other to left shapes words i j)
  where
    -- it stands within them
    pub loop_bounds : Bounds shapes₀ second used end to shapes words i j
    loop_bounds =
        let v = w.walks in
        let m = inv w.p w.ours w.theirs v in
        let h = merging_end m end (fields_end v.walk.ours) in
        record {
          first = h.0;
          within = v.within;
          room = omega (arith, m.split.fits, m.same, w.small);
          other = h.1;
          there = fields_within v.walk.theirs v.there;
          same = m.same;
        }

module _
    {shapes₀ second pool : List ℕ} {used row end other to left : ℕ} {shapes : List ℕ} {words i j : ℕ} {o : Ordering}
    (inv : Underway shapes₀ second pool used row end other to left shapes words i j)
    (tells : TellsNext shapes second pool i (end + words) j to o) (test : i + j < end + words + to)
  where
    module _ {p : List ℕ} {fs gs : Fields} (v : Walks shapes₀ second pool p used row end other to left fs gs) where
      -- the members left
      left_walks
          : Walks shapes second pool p (used + words) i (end + words) j to left (inv p fs gs v).ours (inv p fs gs v).theirs
      left_walks = merging_walks (inv p fs gs v) end (fields_end v.walk.ours)

      -- the next of them
      next : Next o (inv p fs gs v).ours (inv p fs gs v).theirs
      next = tells p (inv p fs gs v).ours (inv p fs gs v).theirs left_walks.walk test

    -- what a turn asks
    pub loop_turns : Mergeable shapes₀ second pool used row end other to left → Turns o shapes second pool (used + words) i j left
    loop_turns w =
        let m = inv w.p w.ours w.theirs w.walks in
        record {
          p = w.p;
          end = end + words;
          to = to;
          ours = m.ours;
          theirs = m.theirs;
          walks = left_walks w.walks;
          next = next w.walks;
          small = omega (arith, m.same, w.small);
        }

    module _ (shapes' : List ℕ) where
      -- a turn that is full says that the members of both are more than fit
      pub loop_full
          : Turned o shapes shapes' second pool (used + words) i j left None → (p : List ℕ) (fs gs : Fields)
          → Walks shapes₀ second pool p used row end other to left fs gs
          → Over shapes₀ shapes' used (2 * forms_fields fs) (2 * forms_fields (merge fs gs))
      loop_full turned p fs gs v =
          let m = inv p fs gs v in
          let x = next v in
          merging_full m x.turn (turned p (end + words) to m.ours m.theirs x.name x.shape x.old x.ours x.theirs (left_walks v) x.turn)

      module _
          {more : ℕ} (turned : Turned o shapes shapes' second pool (used + words) i j left (Some more)) (size passed : ℕ)
          (es : size ≡ size_at shapes' i) (ep : passed ≡ passed_words second j o)
        where
          -- the next member joined
          put
              : {p : List ℕ} {fs gs : Fields} (v : Walks shapes₀ second pool p used row end other to left fs gs)
              → Put shapes shapes' (used + words) more i (next v).old (MemberRows p (next v).name (next v).shape)
          put {p} {fs} {gs} v =
              let m = inv p fs gs v in
              let x = next v in
              turned p (end + words) to m.ours m.theirs x.name x.shape x.old x.ours x.theirs (left_walks v) x.turn

          -- after a turn that grows the table the invariant holds again
          pub loop_again : Underway shapes₀ second pool used row end other to left shapes' (words + more) (i + size) (j + passed)
          loop_again p fs gs v =
              let m = inv p fs gs v in
              merging_on m (next v).turn (put v) size passed es ep
              (omega (arith, (merging_less m (next v).turn (put v) size passed es ep).3, fields_within v.walk.theirs v.there))

          -- and fewer words are left
          pub loop_less
              : Mergeable shapes₀ second pool used row end other to left
              → end + (words + more) + to - (i + size + (j + passed)) < end + words + to - (i + j)
          loop_less w =
              let v = w.walks in
              let y = merging_less (inv w.p w.ours w.theirs v) (next v).turn (put v) size passed es ep in
              omega (arith, y.0, y.1, y.2, y.3, fields_end v.walk.ours)
