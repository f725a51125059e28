-- A pack's results joined into the members of a shape one after the other. Assumes nothing.
use Prim.Native.Nat.{ℕ, max, ◌+◌, ◌*◌, ◌≤◌, ◌<◌}
use native.Mathlib.Omega.{arith}
use mathlib.Core.Path.{◌≡◌, refl, sym, ap, subst, ◌∙◌}
use mathlib.Core.Bool.{Bool, true, not}
use mathlib.Core.List.{List}
use lib.ListN.{length, take, drop}
use Rattle.definitions.specs.Bytes.{Bytes}
use Rattle.definitions.specs.Shape.{Shape, Fields, ascending, ascending_fields, forms_fields}
use Rattle.definitions.specs.Join.{join}
use Rattle.definitions.specs.Reader.{Result, Pairs, pair, among_pairs}
use Rattle.laws.specs.Bools.{and_three}
use Rattle.laws.specs.FormGrammar.{result_levels, pairs_levels}
use Rattle.laws.specs.Readers.{proper, proper_pairs}
use Rattle.shapes.specs.Shapes.{FieldRows, FieldsStand}
use Rattle.shapes.specs.ShapesLaws.{length_field_rows, fields_end}
use Rattle.join.specs.Replacing.{Put, Over}
use Rattle.join.specs.ReplacingLaws.{Split, split_fields, replaced_split}
use Rattle.std.specs.Prelude.{Option}
use Rattle.std.specs.Prelude.{Some, None}
use Rattle.growing.specs.Growing.{member_start, place, join_in}
use Rattle.growing.specs.GrowingLaws.{place_ascending, member_start_ascending}
use Rattle.growing.specs.Rows.{FieldsBecome}
use Rattle.growing.specs.StepLaws.{replaced_then, fields_split}
use Rattle.growing.specs.NullLaws.{nulls_none}
use Rattle.forms.specs.Forms.{PairsStand, size_at}
use Rattle.forms.specs.FormsLaws.{forms_some, stands_size, stands_within}
use Rattle.forms.specs.PartsLaws.{FirstPair, first_pair, no_pair_left}
use Rattle.checking.specs.Bindings.{Kept}
use Rattle.checking.specs.BindingsLaws.{bindings_kept}
use Rattle.result_shape.specs.Results.{Given}
use Rattle.result_shape.specs.ResultsLaws.{FirstGiven, first_given, no_given, given_rising, given_ascends, bindings_ascend, forms_join_in}
use Rattle.result_shape.specs.ResultsLaws.{join_first, join_none}
use Rattle.result_shape.specs.Giving.{Tables, MeetsPair, PairAsked, GivesPair, MeetsPack, PackAsked, GivesPack}
use Rattle.result_shape.proofs.Branches.{kept_then}

pub record PairsGoing
    (table bindings₀ result₀ : List ℕ) (end d used first : ℕ) (had : Bool) (p : List ℕ) (env : List Shape) (gs fs : Fields) (result : List ℕ) (i grown : ℕ)
    : Type 0 where
  pub reached : Fields
  pub pairs : Pairs
  pub left : Fields
  pub put : Put result₀ result used grown first (2 * forms_fields fs) (FieldRows p reached)
  pub stand : PairsStand table p i end d pairs
  pub given : Given env pairs left
  pub once : proper_pairs pairs ≡ true
  pub room : d + pairs_levels pairs ≤ length bindings₀ + 1
  pub ascend : ascending_fields reached ≡ true
  pub same : join_in gs (member_start had) fs ≡ join_in left (member_start had) reached

pub record PairsLoop
    (table shapes pool bindings₀ result₀ : List ℕ) (row end d used first last deep : ℕ) (had : Bool) (bindings result : List ℕ) (i grown : ℕ)
    : Type 0 where
  pub same : length result ≡ length result₀
  pub ahead : row ≤ i
  pub kept : Kept bindings₀ bindings d
  pub going
      : (p : List ℕ) (ps : Pairs) (env : List Shape) (gs fs : Fields)
      → MeetsPack table shapes pool bindings₀ result₀ p row end d used first last deep ps env gs fs
      → PairsGoing table bindings₀ result₀ end d used first had p env gs fs result i grown

pub pairs_begin
    : (table shapes pool bindings result : List ℕ) (row end d used first last deep : ℕ) (had : Bool) → used ≤ length result
    → PairsLoop table shapes pool bindings result row end d used first last deep had bindings result row 0
pairs_begin table shapes pool bindings result row end d used first last deep had j =
    record {
      same = refl;
      ahead = omega arith;
      kept = record { front = refl; same = refl };
      going = λ p ps env gs fs h.
          record {
            reached = fs;
            pairs = ps;
            left = gs;
            put = nulls_none h.fields.stand h.fields.begins h.fields.within j;
            stand = h.pairs.stand;
            given = h.given;
            once = h.once;
            room = h.pairs.room;
            ascend = h.ascend;
            same = refl;
          };
    }

-- the first of the pairs is well formed, and so are the others
first_once
    : (n : Bytes) (r : Result) (ps qs : Pairs) → qs ≡ pair n r ps → proper_pairs qs ≡ true → (proper r ≡ true) × (proper_pairs ps ≡ true)
unfolding proper
first_once n r ps qs e h =
    let x = and_three (not (among_pairs n ps)) (proper r) (proper_pairs ps) (sym (ap proper_pairs e) ∙ h) in (x.1, x.2)

first_levels : (n : Bytes) (r : Result) (ps qs : Pairs) → qs ≡ pair n r ps → pairs_levels qs ≡ max (result_levels r) (pairs_levels ps)
unfolding result_levels
first_levels n r ps qs e = ap pairs_levels e

module _
    {table shapes pool bindings₀ result₀ : List ℕ} {row end d used first last deep : ℕ} {had : Bool} {bindings result : List ℕ} {i grown : ℕ}
    (tables : Tables shapes result₀ used)
    (l : PairsLoop table shapes pool bindings₀ result₀ row end d used first last deep had bindings result i grown)
    (more : i < end)
  where
    module _
        {p : List ℕ} {ps : Pairs} {env : List Shape} {gs fs : Fields}
        (h : MeetsPack table shapes pool bindings₀ result₀ p row end d used first last deep ps env gs fs)
      where
        abbrev here : PairsGoing table bindings₀ result₀ end d used first had p env gs fs result i grown
        here = l.going p ps env gs fs h

        abbrev next : FirstPair table p i end d here.pairs
        next = first_pair here.stand more

        abbrev next_given : FirstGiven env next.name next.result next.others here.left
        next_given = first_given (subst (λ (x : Pairs). Given env x here.left) next.same here.given)

        abbrev after : Fields
        after = place next.name (member_start had) (λ s. join s next_given.shape) here.reached

        after_same : join_in gs (member_start had) fs ≡ join_in next_given.others (member_start had) after
        after_same =
            here.same
            ∙ join_first next.name next_given.shape next_given.others here.left (member_start had) here.reached next_given.same

        counts : 2 * forms_fields here.reached ≡ 2 * forms_fields fs + grown
        counts = sym (length_field_rows here.put.encoded) ∙ here.put.replaced.grown

        entry_split
            : Split result₀ used first (2 * forms_fields fs) (take first result₀) h.fields.stand.rows (drop last (take used result₀))
        entry_split = fields_split h.fields.stand h.fields.begins h.fields.within tables.enough

        now_split
            : Split result (used + grown) first (2 * forms_fields fs + grown) (take first result₀) here.put.rows (drop last (take used result₀))
        now_split = replaced_split entry_split here.put.replaced

        shape_ascends : ascending next_given.shape ≡ true
        shape_ascends = given_ascends next.result env next_given.shape (bindings_ascend h.pairs.bound) next_given.gives

        after_ascends : ascending_fields after ≡ true
        after_ascends =
            place_ascending next.name next_given.shape (member_start had) here.reached shape_ascends (member_start_ascending had) here.ascend

        pair_meets
            : MeetsPair table shapes pool bindings result p i d (used + grown) first (last + grown) deep next.name next.word next.result env
            next_given.shape here.reached
        pair_meets =
            record {
              form =
                  record {
                    pooled = h.pairs.pooled;
                    stands = next.stands;
                    bound = bindings_kept h.pairs.bound l.kept;
                    room =
                        omega (
                          arith,
                          here.room,
                          l.kept.same,
                          first_levels next.name next.result next.others here.pairs next.same,
                        );
                  };
              refers = next.refers;
              gives = next_given.gives;
              once = (first_once next.name next.result next.others here.pairs next.same here.once).0;
              fields =
                  record {
                    pooled = h.pairs.pooled;
                    stand =
                        subst
                        (λ (x : ℕ). FieldsStand result p first x here.reached)
                        (let e : first + (2 * forms_fields fs + grown) ≡ last + grown = omega (arith, fields_end h.fields.stand) in e)
                        (split_fields now_split here.put.encoded);
                    begins = omega (arith, h.fields.begins);
                    within = omega (arith, h.fields.within);
                  };
              ascend = here.ascend;
            }

        pairs_on
            : {result' : List ℕ} {words : ℕ}
            → Put result result' (used + grown) words first (2 * forms_fields here.reached) (FieldRows p after)
            → PairsGoing table bindings₀ result₀ end d used first had p env gs fs result' (i + size_at table i) (grown + words)
        pairs_on q =
            record {
              reached = after;
              pairs = next.others;
              left = next_given.others;
              put =
                  record {
                    rows = q.rows;
                    encoded = q.encoded;
                    replaced = replaced_then entry_split here.put.replaced counts q.replaced;
                  };
              stand = next.more;
              given = next_given.given;
              once = (first_once next.name next.result next.others here.pairs next.same here.once).1;
              room = omega (arith, here.room, first_levels next.name next.result next.others here.pairs next.same);
              ascend = after_ascends;
              same = after_same;
            }

        pairs_over
            : {result' : List ℕ} → Over result result' (used + grown) (2 * forms_fields here.reached) (2 * forms_fields after)
            → Over result₀ result' used (2 * forms_fields fs) (2 * forms_fields (join_in gs (member_start had) fs))
        pairs_over o =
            record {
              over =
                  omega (
                    arith,
                    o.over,
                    counts,
                    l.same,
                    forms_join_in
                        next_given.others
                        (member_start had)
                        after
                        (given_rising (bindings_ascend h.pairs.bound) next_given.given)
                        (member_start_ascending had)
                        after_ascends,
                    ap forms_fields after_same,
                  );
              same = o.same ∙ l.same;
            }

    -- the size of the next form
    pub pairs_size
        : PackAsked table shapes pool bindings₀ result₀ row end d used first last deep
        → (1 ≤ size_at table i) × (i + size_at table i ≤ length table) × (i + size_at table i ≤ end)
    pairs_size w =
        let n = next w.meets in (
          omega (arith, stands_size n.stands, forms_some n.result),
          omega (arith, stands_size n.stands, stands_within n.stands),
          omega (arith, n.more.reaches),
        )

    pub pairs_last : PackAsked table shapes pool bindings₀ result₀ row end d used first last deep → (used + grown ≤ length result₀) × (last ≤ used)
    pairs_last w = ((here w.meets).put.replaced.within, w.meets.fields.within)

    pub pairs_tables : PackAsked table shapes pool bindings₀ result₀ row end d used first last deep → Tables shapes result (used + grown)
    pairs_tables w =
        record {
          enough = omega (arith, (here w.meets).put.replaced.within, l.same);
          small = omega (arith, tables.small, l.same);
          few = tables.few;
        }

    pub pairs_asked
        : PackAsked table shapes pool bindings₀ result₀ row end d used first last deep
        → PairAsked table shapes pool bindings result i d (used + grown) first (last + grown) deep
    pairs_asked w =
        let h = w.meets in
        record {
          p = w.p;
          label = (next h).name;
          word = (next h).word;
          form = (next h).result;
          env = w.env;
          given = (next_given h).shape;
          olds = (here h).reached;
          meets = pair_meets h;
        }

    module _ (bindings' result' : List ℕ) (o : Option ℕ)
        (q : GivesPair table shapes pool bindings result result' i d (used + grown) first (last + grown) deep had o) (kept : Kept bindings bindings' d)
      where
        become
            : {p : List ℕ} {ps : Pairs} {env : List Shape} {gs fs : Fields}
            (h : MeetsPack table shapes pool bindings₀ result₀ p row end d used first last deep ps env gs fs)
            → FieldsBecome result result' p (used + grown) first (here h).reached (after h) o
        become {p} {env = env} h = q p (next h).name (next h).word (next h).result env (next_given h).shape (here h).reached (pair_meets h)

        pub pairs_kept : Kept bindings₀ bindings' d
        pairs_kept = kept_then bindings₀ bindings bindings' d d (omega arith) l.kept kept

        pub pairs_full : o ≡ None → GivesPack table shapes pool bindings₀ result₀ result' row end d used first last deep had None
        pairs_full e p ps env gs fs h =
            pairs_over h (subst (λ (x : Option ℕ). FieldsBecome result result' p (used + grown) first (here h).reached (after h) x) e (become h))

        module _ {words : ℕ} (e : o ≡ Some words) where
          put_now
              : {p : List ℕ} {ps : Pairs} {env : List Shape} {gs fs : Fields}
              (h : MeetsPack table shapes pool bindings₀ result₀ p row end d used first last deep ps env gs fs)
              → Put result result' (used + grown) words first (2 * forms_fields (here h).reached) (FieldRows p (after h))
          put_now {p} h =
              subst (λ (x : Option ℕ). FieldsBecome result result' p (used + grown) first (here h).reached (after h) x) e (become h)

          pub pairs_loop_on
              : {n : ℕ} → n ≡ size_at table i → length result' ≡ length result
              → PairsLoop table shapes pool bindings₀ result₀ row end d used first last deep had bindings' result' (i + n) (grown + words)
          pairs_loop_on z c =
              record {
                same = c ∙ l.same;
                ahead = omega (arith, l.ahead);
                kept = pairs_kept;
                going = λ p ps env gs fs h.
                    subst
                    (λ (x : ℕ). PairsGoing table bindings₀ result₀ end d used first had p env gs fs result' (i + x) (grown + words))
                    (sym z)
                    (pairs_on h (put_now h));
              }

          pub pairs_grown : PackAsked table shapes pool bindings₀ result₀ row end d used first last deep → used + (grown + words) ≤ length result₀
          pairs_grown w = (pairs_on w.meets (put_now w.meets)).put.replaced.within

pub pairs_end
    : {table shapes pool bindings₀ result₀ : List ℕ} {row end d used first last deep : ℕ} {had : Bool} {bindings result : List ℕ} {i grown : ℕ}
    → PairsLoop table shapes pool bindings₀ result₀ row end d used first last deep had bindings result i grown → end ≤ i
    → GivesPack table shapes pool bindings₀ result₀ result row end d used first last deep had (Some grown)
pairs_end {had = had} l past p ps env gs fs h =
    let g = l.going p ps env gs fs h in
    let x : g.left ≡ _ = no_given (subst (λ (y : Pairs). Given env y g.left) (no_pair_left g.stand past) g.given) in
    let e : join_in gs (member_start had) fs ≡ g.reached = g.same ∙ join_none g.left (member_start had) g.reached x in
    record {
      rows = g.put.rows;
      encoded = subst (λ (y : Fields). FieldRows p y g.put.rows) (sym e) g.put.encoded;
      replaced = g.put.replaced;
    }
