-- The members of two shapes joined in place, turn by turn. Assumes nothing.
use Prim.Native.Nat.{ℕ, ◌+◌, ◌*◌, ◌≤◌, ◌<◌}
use native.Mathlib.Omega.{arith}
use mathlib.Core.Path.{◌≡◌, refl, sym, ap, subst, ◌∙◌}
use mathlib.Core.Bool.{true}
use mathlib.Core.List.{List, [], ◌∷◌, ◌++◌, append_assoc, append-nil}
use lib.ListN.{length, take, drop, length-append}
use lib.Seq.{length-take-le}
use Rattle.definitions.specs.Bytes.{Bytes}
use Rattle.definitions.specs.Shape.{Shape, Fields, no_fields, field, ascending_fields, forms, forms_fields, levels, levels_fields}
use Rattle.laws.specs.Fields.{ascending_rest}
use Rattle.std.specs.declared.cmp.Ordering.{Ordering}
use Rattle.plain.specs.Table.{Used}
use Rattle.shapes.specs.Shapes.{FieldRows, no_field_rows, field_rows, Stands, FieldsStand, size_at}
use Rattle.shapes.specs.ShapesLaws.{length_shape_rows, length_field_rows, stands_size, forms_some, fields_first, fields_rest, fields_end}
use Rattle.join.specs.Replacing.{Put, Over}
use Rattle.join.specs.ReplacingLaws.{Split, split_of, split_as, split_behind_as, fields_split, split_stands, split_fields}
use Rattle.join.specs.ReplacingLaws.{replaced_split, split_replaced, split_first, split_next, split_back, split_used}
use Rattle.join.specs.Merge.{merge, merge_none, merge_first, merge_second, merge_both, forms_merge}
use Rattle.join.specs.Joining.{Walks, Turn, turn_first, turn_second, turn_both, MemberRows, passed_words}

empty : (l : List ℕ) → length l ≡ 0 → l ≡ []
empty [] e = refl
empty (x ∷ l) e = absurd (let z : ⊥ = omega arith in z)

-- ---- one turn of the definition

turn_merge
    : {o : Ordering} {fs gs : Fields} {n : Bytes} {u : Shape} {old : ℕ} {fs' gs' : Fields} → Turn o fs gs n u old fs' gs'
    → ascending_fields fs ≡ true → ascending_fields gs ≡ true → merge fs gs ≡ field n u (merge fs' gs')
turn_merge (turn_first {n} {a} {fs} {gs} h) i j = merge_first n a fs gs i j h
turn_merge (turn_second {m} {b} {fs} {gs} h) i j = merge_second m b fs gs i h
turn_merge (turn_both {n} {a} {b} {fs} {gs}) i j = merge_both n a b fs gs i j

-- the members left ascend, and are nested no deeper
turn_ours
    : {o : Ordering} {fs gs : Fields} {n : Bytes} {u : Shape} {old : ℕ} {fs' gs' : Fields} → Turn o fs gs n u old fs' gs'
    → ascending_fields fs ≡ true → ascending_fields fs' ≡ true
turn_ours (turn_first {n} {a} {fs} h) i = ascending_rest n a fs i
turn_ours (turn_second h) i = i
turn_ours (turn_both {n} {a} {b} {fs}) i = ascending_rest n a fs i

turn_theirs
    : {o : Ordering} {fs gs : Fields} {n : Bytes} {u : Shape} {old : ℕ} {fs' gs' : Fields} → Turn o fs gs n u old fs' gs'
    → ascending_fields gs ≡ true → ascending_fields gs' ≡ true
turn_theirs (turn_first h) i = i
turn_theirs (turn_second {m} {b} {fs} {gs} h) i = ascending_rest m b gs i
turn_theirs (turn_both {n} {a} {b} {fs} {gs}) i = ascending_rest n b gs i

turn_nests
    : {o : Ordering} {fs gs : Fields} {n : Bytes} {u : Shape} {old : ℕ} {fs' gs' : Fields} → Turn o fs gs n u old fs' gs' → (left : ℕ)
    → levels_fields gs ≤ left → levels_fields gs' ≤ left
unfolding levels
turn_nests (turn_first h) left i = i
turn_nests (turn_second h) left i = omega arith
turn_nests turn_both left i = omega arith

-- ---- one turn of the tables

-- the words of the first that a turn takes the place of, and those behind them
record Taken (p : List ℕ) (old : ℕ) (fs' : Fields) (rows : List ℕ) : Type 0 where
  taken : List ℕ
  others : List ℕ
  whole : rows ≡ taken ++ others
  size : length taken ≡ old
  encoded : FieldRows p fs' others

first_taken : {p rows : List ℕ} {n : Bytes} {a : Shape} {fs : Fields} → FieldRows p (field n a fs) rows → Taken p (2 * forms a) fs rows
first_taken (field_rows {rs} {qs} f is js) = record { taken = rs; others = qs; whole = refl; size = length_shape_rows is; encoded = js }

turn_taken
    : {p rows : List ℕ} {o : Ordering} {fs gs : Fields} {n : Bytes} {u : Shape} {old : ℕ} {fs' gs' : Fields} → Turn o fs gs n u old fs' gs'
    → FieldRows p fs rows → Taken p old fs' rows
turn_taken (turn_first h) e = first_taken e
turn_taken {rows} (turn_second h) e = record { taken = []; others = rows; whole = refl; size = refl; encoded = e }
turn_taken turn_both e = first_taken e

-- the second's members left, and that a turn passes something
turn_passes
    : {second p : List ℕ} {j to : ℕ} {o : Ordering} {fs gs : Fields} {n : Bytes} {u : Shape} {old : ℕ} {fs' gs' : Fields}
    → Turn o fs gs n u old fs' gs' → FieldsStand second p j to gs
    → FieldsStand second p (j + passed_words second j o) to gs' × (0 < old + passed_words second j o)
turn_passes {second} {p} {j} {to} (turn_first {a} {gs} h) w = (
  subst (λ (i : ℕ). FieldsStand second p i to gs) (let e : j ≡ j + 0 = omega arith in e) w,
  omega (arith, forms_some a),
)
turn_passes (turn_second {b} h) w = (fields_rest w, omega (arith, forms_some b, stands_size (fields_first w).2))
turn_passes (turn_both {a}) w = (fields_rest w, omega (arith, forms_some a))

-- ---- how far the walk is

-- the members done stand joined in the first, those left as they were
pub record Merging
    (shapes₀ second pool : List ℕ) (used row to left : ℕ) (p : List ℕ) (fs gs : Fields) (shapes : List ℕ) (words i j : ℕ)
    : Type 0 where
  pub done : List ℕ
  pub rows : List ℕ
  pub ours : Fields
  pub theirs : Fields
  pub split
      : Split shapes (used + words) i (length rows) (take row shapes₀ ++ done) rows (drop (row + 2 * forms_fields fs) (take used shapes₀))
  pub encoded : FieldRows p ours rows
  pub stand : FieldsStand second p j to theirs
  pub goes : (rs : List ℕ) → FieldRows p (merge ours theirs) rs → FieldRows p (merge fs gs) (done ++ rs)
  pub counts : 2 * forms_fields (merge fs gs) ≡ length done + 2 * forms_fields (merge ours theirs)
  pub place : i ≡ row + length done
  pub reach : i + length rows ≡ row + 2 * forms_fields fs + words
  pub ours_ascend : ascending_fields ours ≡ true
  pub theirs_ascend : ascending_fields theirs ≡ true
  pub nests : levels_fields theirs ≤ left
  pub there : j ≤ length second
  pub pooled : Used pool p
  pub same : length shapes ≡ length shapes₀

module _ {shapes second pool p : List ℕ} {used row end other to left : ℕ} {fs gs : Fields} where
  pub merging : Walks shapes second pool p used row end other to left fs gs → Merging shapes second pool used row to left p fs gs shapes 0 row other
  merging w =
      let e : row + 2 * forms_fields fs ≡ end = fields_end w.walk.ours in
      let f = w.walk.ours in
      let l : length f.rows ≡ 2 * forms_fields fs = length_field_rows f.encoded in
      record {
        done = [];
        rows = f.rows;
        ours = fs;
        theirs = gs;
        split = split_behind_as
            (split_as
            (fields_split f w.within w.used_within)
            (let g : used ≡ used + 0 = omega arith in g)
            (sym l)
            refl)
            (sym (append-nil (take row shapes)))
            refl;
        encoded = f.encoded;
        stand = w.walk.theirs;
        goes = λ rs r. r;
        counts = omega arith;
        place = omega arith;
        reach = omega arith;
        ours_ascend = w.walk.ours_ascend;
        theirs_ascend = w.walk.theirs_ascend;
        nests = w.nests;
        there = w.there;
        pooled = w.walk.pooled;
        same = refl;
      }

module _
    {shapes₀ second pool : List ℕ} {used row to left : ℕ} {p : List ℕ} {fs gs : Fields} {shapes : List ℕ} {words i j : ℕ}
    (m : Merging shapes₀ second pool used row to left p fs gs shapes words i j)
  where
    pub merging_end : (end : ℕ) → row + 2 * forms_fields fs ≡ end → (i ≤ end + words) × (j ≤ to)
    merging_end end e = (omega (arith, m.reach), omega (arith, fields_end m.stand))

    pub merging_walks
        : (end : ℕ) → row + 2 * forms_fields fs ≡ end → Walks shapes second pool p (used + words) i (end + words) j to left m.ours m.theirs
    merging_walks end e =
        record {
          walk = record {
            ours = subst
                (λ (n : ℕ). FieldsStand shapes p i n m.ours)
                (let q : i + length m.rows ≡ end + words = omega (arith, m.reach) in q)
                (split_fields m.split m.encoded);
            theirs = m.stand;
            ours_ascend = m.ours_ascend;
            theirs_ascend = m.theirs_ascend;
            pooled = m.pooled;
          };
          within = omega (arith, m.reach, split_used m.split);
          used_within = m.split.fits;
          there = m.there;
          nests = m.nests;
        }

    module _
        {o : Ordering} {n : Bytes} {u : Shape} {old : ℕ} {fs' gs' : Fields} (t : Turn o m.ours m.theirs n u old fs' gs')
      where
        pub merging_full
            : {shapes' : List ℕ} → Over shapes shapes' (used + words) old (2 * forms u)
            → Over shapes₀ shapes' used (2 * forms_fields fs) (2 * forms_fields (merge fs gs))
        unfolding forms
        merging_full v =
            let k = turn_taken t m.encoded in
            record {
              over = omega (
                arith,
                v.over,
                m.same,
                m.counts,
                m.reach,
                m.place,
                ap forms_fields (turn_merge t m.ours_ascend m.theirs_ascend),
                forms_merge fs' gs' (turn_ours t m.ours_ascend) (turn_theirs t m.theirs_ascend),
                ap length k.whole,
                length-append k.taken k.others,
                k.size,
                length_field_rows k.encoded,
              );
              same = v.same ∙ m.same;
            }

        module _ {shapes' : List ℕ} {more : ℕ} (q : Put shapes shapes' (used + words) more i old (MemberRows p n u)) where
          -- the first with the member joined
          joined_split
              : Split
              shapes'
              (used + words + more)
              (i + length q.rows)
              (length (turn_taken t m.encoded).others)
              ((take row shapes₀ ++ m.done) ++ q.rows)
              (turn_taken t m.encoded).others
              (drop (row + 2 * forms_fields fs) (take used shapes₀))
          joined_split =
              let k = turn_taken t m.encoded in
              split_next
              q.rows
              k.others
              (replaced_split
              (split_as (split_first k.taken k.others (split_as m.split refl refl k.whole)) refl k.size refl)
              q.replaced)

          member_stands : Stands shapes' p i q.encoded.name u
          member_stands =
              let k = turn_taken t m.encoded in
              split_stands
              (replaced_split
              (split_as (split_first k.taken k.others (split_as m.split refl refl k.whole)) refl k.size refl)
              q.replaced)
              q.encoded.encoded

          pub member_size : size_at shapes' i ≡ length q.rows
          member_size = stands_size member_stands ∙ sym (length_shape_rows q.encoded.encoded)

          pub merging_on
              : (size passed : ℕ) → size ≡ size_at shapes' i → passed ≡ passed_words second j o → j + passed ≤ length second
              → Merging shapes₀ second pool used row to left p fs gs shapes' (words + more) (i + size) (j + passed)
          unfolding forms
          merging_on size passed es ep room =
              let k = turn_taken t m.encoded in
              let f : size ≡ length q.rows = es ∙ member_size in
              let e = turn_merge t m.ours_ascend m.theirs_ascend in
              let g = ap length k.whole in
              record {
                done = m.done ++ q.rows;
                rows = k.others;
                ours = fs';
                theirs = gs';
                split = split_behind_as
                    (split_as joined_split (let x : used + words + more ≡ used + (words + more) = omega arith in x) refl refl)
                    (append_assoc (take row shapes₀) m.done q.rows)
                    (ap (λ (x : ℕ). i + x) (sym f));
                encoded = k.encoded;
                stand = subst (λ (x : ℕ). FieldsStand second p (j + x) to gs') (sym ep) (turn_passes t m.stand).0;
                goes = λ rs r.
                    subst
                    (FieldRows p (merge fs gs))
                    (sym (append_assoc m.done q.rows rs))
                    (m.goes
                    (q.rows ++ rs)
                    (subst (λ (x : Fields). FieldRows p x (q.rows ++ rs)) (sym e) (field_rows q.encoded.refers q.encoded.encoded r)));
                counts = omega (arith, m.counts, ap forms_fields e, length-append m.done q.rows, length_shape_rows q.encoded.encoded);
                place = omega (arith, m.place, length-append m.done q.rows);
                reach = omega (arith, m.reach, g, length-append k.taken k.others, k.size, q.replaced.grown);
                ours_ascend = turn_ours t m.ours_ascend;
                theirs_ascend = turn_theirs t m.theirs_ascend;
                nests = turn_nests t left m.nests;
                there = room;
                pooled = m.pooled;
                same = q.replaced.same ∙ m.same;
              }

          -- what a turn passes, and what it leaves
          pub merging_less
              : (size passed : ℕ) → size ≡ size_at shapes' i → passed ≡ passed_words second j o
              → (size ≡ old + more) × (0 < old + passed) × (i + old ≤ row + 2 * forms_fields fs + words) × (j + passed ≤ to)
          merging_less size passed es ep =
              let k = turn_taken t m.encoded in
              let h = turn_passes t m.stand in (
                omega (arith, es ∙ member_size, q.replaced.grown),
                omega (arith, h.1, ep),
                omega (arith, m.reach, ap length k.whole, length-append k.taken k.others, k.size),
                omega (arith, fields_end h.0, ep),
              )

    -- nothing is left
    nothing_left
        : (end : ℕ) → row + 2 * forms_fields fs ≡ end → end + words + to ≤ i + j → (hs ks : Fields) → hs ≡ m.ours → ks ≡ m.theirs
        → (hs ≡ no_fields) × (ks ≡ no_fields)
    unfolding forms
    nothing_left end e h no_fields no_fields f g = (refl, refl)
    nothing_left end e h (field n a hs) ks f g =
        absurd (let z : ⊥ = omega (arith, m.reach, length_field_rows m.encoded, ap forms_fields f, forms_some a, fields_end m.stand) in z)
    nothing_left end e h no_fields (field n b ks) f g =
        absurd (let z : ⊥ = omega (arith, m.reach, length_field_rows m.encoded, ap forms_fields g, forms_some b, fields_end m.stand) in z)

    pub merged
        : (end : ℕ) → row + 2 * forms_fields fs ≡ end → end ≤ used → used ≤ length shapes₀ → end + words + to ≤ i + j
        → Put shapes₀ shapes used words row (2 * forms_fields fs) (FieldRows p (merge fs gs))
    unfolding forms
    merged end e h l x =
        let z = nothing_left end e x m.ours m.theirs refl refl in
        let r : length m.rows ≡ 0 = length_field_rows m.encoded ∙ ap (λ (y : Fields). 2 * forms_fields y) z.0 in
        let n : m.rows ≡ [] = empty m.rows r in
        record {
          rows = m.done;
          encoded = subst
              (FieldRows p (merge fs gs))
              (append-nil m.done)
              (m.goes
              []
              (subst (λ (y : Fields). FieldRows p y [])
              (sym (ap (λ (y : Fields). merge y m.theirs) z.0 ∙ ap (merge no_fields) z.1 ∙ merge_none)) no_field_rows));
          replaced = split_replaced
              (split_of shapes₀ used row (2 * forms_fields fs) (omega arith) l)
              (split_as
              (split_back (take row shapes₀) m.done (split_as m.split refl refl n) (length-take-le row shapes₀ (omega arith)))
              refl
              (omega (arith, m.place, m.reach))
              refl)
              m.same;
        }
