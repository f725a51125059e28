-- What running `each` answers, element by element. Assumes nothing.
use Prim.Native.Nat.{ℕ, suc, ◌+◌, ◌*◌, ◌^◌, ◌≤◌, ◌<◌}
use native.Mathlib.Numerals.{add-one}
use native.Mathlib.Omega.{arith}
use mathlib.Core.Path.{◌≡◌, refl, sym, ap, ◌∙◌, subst}
use mathlib.Core.List.{List, [], ◌∷◌, ◌++◌, append_assoc, append-nil}
use lib.ListN.{length, take, drop, set, length-set, take-append-drop}
use lib.Seq.{take-take, length-take-le, drop_at}
use Rattle.definitions.specs.declared.Limits.{Limits}
use Rattle.definitions.specs.Value.{Value, Items, no_items, item, items_onto, size, size_items}
use Rattle.definitions.specs.Reader.{Place, Result}
use Rattle.definitions.specs.Running.{items_of, run_items, run}
use Rattle.laws.specs.FormGrammar.{result_levels}
use Rattle.laws.specs.Good.{GoodReader, good_each}
use Rattle.nodes.specs.Nodes.{kind_code, head_word, row_size, list_rows, ItemsBefore, no_items_before, item_before}
use Rattle.nodes.specs.NodesLaws.{items_read, size_items_onto, length_items_before}
use Rattle.nodes.specs.RowLaws.{row_put}
use Rattle.nodes.specs.Standing.{ItemsStand}
use Rattle.nodes.specs.StandingLaws.{size_some, value_size, value_within, first_item, no_item_left}
use Rattle.plain.specs.Table.{BoundedNumbers, BoundedItems}
use Rattle.forms.specs.Forms.{FormStands}
use Rattle.forms.specs.FormsLaws.{stands_code, stands_within, forms_some, levels_some}
use Rattle.forms.specs.PartsLaws as parts
use Rattle.std.specs.Prelude.{Ok, Err}
use Rattle.reading.specs.declared.Refusal.{Refusal}
use Rattle.running.specs.declared.going.Cursor.{Cursor}
use Rattle.running.specs.Bindings.{Bound, standing}
use Rattle.running.specs.BindingsLaws.{binds_kept, binds_more, bound_within}
use Rattle.running.specs.Codes.{IsEach, is_each, each_of}
use Rattle.running.specs.FormLaws as laws
use Rattle.running.specs.Rows.{EndsItems, ItemsAt, ListClosable, ClosesList}
use Rattle.running.specs.Walk.{Part, follow, Meets, Paid, Ready, Following, Appended, Made, Comes, Runs, Follows}
use Rattle.running.proofs.WhenRuns.{part_meets, kept_before}

-- ---- rows of parts

-- those behind a row that is open
pub record PartsPut (results₀ results : List ℕ) (first begun : ℕ) (rows : List ℕ) : Type 0 where
  pub placed : take (3 * begun) results ≡ take (3 * suc first) results₀ ++ rows

pub parts_more
    : {p results₀ results results' : List ℕ} {first begun name : ℕ} {rows : List ℕ} {w : Value} → PartsPut results₀ results first begun rows
    → (a : Appended p results results' name begun w) → PartsPut results₀ results' first (begun + size w) (rows ++ a.rows)
parts_more {results₀ = results₀} {first = first} {rows = rows} q a =
    record {
      placed = a.placed ∙ ap (λ (t : List ℕ). t ++ a.rows) q.placed ∙ append_assoc (take (3 * suc first) results₀) rows a.rows;
    }

-- they stand in the table
pub parts_stand
    : (results₀ results : List ℕ) {first begun : ℕ} {rows : List ℕ} → PartsPut results₀ results first begun rows → 3 * suc first ≤ length results₀
    → drop (3 * first + 3) results ≡ rows ++ drop (3 * begun) results
parts_stand results₀ results {first} {begun} {rows} q room =
    ap (drop (3 * first + 3))
    (sym (take-append-drop (3 * begun) results)
    ∙ ap (λ (t : List ℕ). t ++ drop (3 * begun) results) q.placed
    ∙ append_assoc (take (3 * suc first) results₀) rows (drop (3 * begun) results))
    ∙ drop_at (take (3 * suc first) results₀) (rows ++ drop (3 * begun) results) (3 * first + 3)
    (length-take-le (3 * suc first) results₀ room ∙ omega arith)

bounded_onto : (done left : Items) → BoundedItems done → BoundedItems left → BoundedItems (items_onto done left)
unfolding items_onto BoundedNumbers
bounded_onto no_items left b d = d
bounded_onto (item v vs) left b d = bounded_onto vs (item v left) b.1 (b.0, d)

-- ---- the loop

-- how far it has come: the results made, the latest first, and the elements left
pub record EachState
    (forms nodes pool results₀ : List ℕ) (limit : ℕ) (c : Cursor) (behind end : ℕ) (l : Limits) (p : List ℕ) (form : Result) (env : List Value) (v : Value)
    (results : List ℕ) (i begun steps : ℕ) : Type 0 where
  pub place : ℕ
  pub inner : Place
  pub body : Result
  pub same : form ≡ Result.each place inner body
  pub done : Items
  pub left : Items
  pub stand : ItemsStand nodes p i end left
  pub bounded_left : BoundedItems left
  pub bounded_done : BoundedItems done
  pub whole : follow form l env v behind ≡ laws.items_behind done (run_items (λ w n. run body l (w ∷ env) n) left steps)
  pub counted : begun ≡ suc c.begun + size_items done
  pub paid : Paid begun steps
  pub more : c.steps < steps
  pub within : steps ≤ limit
  pub put : 3 * begun ≤ length results₀ → (rows : List ℕ) × ItemsBefore p done rows × PartsPut results₀ results c.begun begun rows

pub record EachLoop
    (forms nodes pool bindings₀ results₀ : List ℕ) (limit : ℕ) (c : Cursor) (at behind end : ℕ) (bindings results : List ℕ) (i begun steps : ℕ) : Type 0 where
  pub same_bindings : length bindings ≡ length bindings₀
  pub same_results : length results ≡ length results₀
  pub bound_kept : take c.bound bindings ≡ take c.bound bindings₀
  pub front : take (3 * c.begun) results ≡ take (3 * c.begun) results₀
  pub going
      : (l : Limits) (p : List ℕ) (form : Result) (env : List Value) (v : Value)
      → Meets forms nodes pool bindings₀ limit c.row c.bound l p form env → Bound nodes p at v
      → EachState forms nodes pool results₀ limit c behind end l p form env v results i begun steps

module _ {forms nodes pool bindings₀ results₀ : List ℕ} {limit : ℕ} {c : Cursor} {at behind : ℕ}
    (f : Following forms nodes pool bindings₀ results₀ limit c at behind 9 9) where
  is_it
      : {l : Limits} {p : List ℕ} {env : List Value} (form : Result) → Meets forms nodes pool bindings₀ limit c.row c.bound l p form env → IsEach form
  is_it form m = each_of form (omega (arith, f.late, f.early, stands_code m.stands))

  -- where its rows stand
  pub each_within : (parts.after forms (c.row + 3) + 3 ≤ length forms) × (c.bound < length bindings₀) × (at ≤ 65536) × (c.begun + 1 ≤ 2 ^ 60)
  unfolding result_levels
  each_within = go (is_it f.ready.form f.ready.meets) f.ready.meets
    where
      go : {form : Result} → IsEach form
          → Meets forms nodes pool bindings₀ limit c.row c.bound f.ready.limits f.ready.used form f.ready.env
          → (parts.after forms (c.row + 3) + 3 ≤ length forms) × (c.bound < length bindings₀) × (at ≤ 65536) × (c.begun + 1 ≤ 2 ^ 60)
      go (is_each {r}) m = (
        omega (arith, stands_within (parts.each_result m.stands), forms_some r),
        omega (arith, m.room, levels_some r),
        omega (arith, bound_within f.bound, f.ready.small.rows),
        omega (arith, f.ready.paid, f.counted, f.left, f.ready.small.steps),
      )

  pub each_begins
      : {end : ℕ} → ((p : List ℕ) (v : Value) → Bound nodes p at v → EndsItems nodes p at v end)
      → EachLoop forms nodes pool bindings₀ results₀ limit c at behind end bindings₀ results₀ (at + 3) (c.begun + 1) behind
  unfolding BoundedNumbers size
  each_begins {end} ends =
      record {
        same_bindings = refl;
        same_results = refl;
        bound_kept = refl;
        front = refl;
        going = λ l p form env v m b. go (is_it form m) l p env v b (ends p v b);
      }
    where
      go : {form : Result} → IsEach form → (l : Limits) (p : List ℕ) (env : List Value) (v : Value) → Bound nodes p at v → EndsItems nodes p at v end
          → EachState forms nodes pool results₀ limit c behind end l p form env v results₀ (at + 3) (c.begun + 1) behind
      go (is_each {at = a} {q} {r}) l p env v b e =
          record {
            place = a;
            inner = q;
            body = r;
            same = refl;
            done = no_items;
            left = items_of v;
            stand = e.stand;
            bounded_left = e.bounded;
            bounded_done = tt;
            whole = laws.each_begins a q r l env v behind;
            counted = omega arith;
            paid = omega (arith, f.ready.paid, f.counted);
            more = f.counted;
            within = f.left;
            put = λ h. (
              [],
              no_items_before,
              record {
                placed = ap (λ (n : ℕ). take (3 * n) results₀) (add-one c.begun) ∙ sym (append-nil (take (3 * suc c.begun) results₀));
              },
            );
          }

  module _ {end : ℕ} {bindings results : List ℕ} {i begun steps : ℕ}
      (w : EachLoop forms nodes pool bindings₀ results₀ limit c at behind end bindings results i begun steps) where
    pub loop_bounds : (steps ≤ 65536) × (begun ≤ 65536 + 65536 * 65536) × (c.begun < begun)
    loop_bounds =
        let s = w.going f.ready.limits f.ready.used f.ready.form f.ready.env f.value f.ready.meets f.bound in
        (omega (arith, s.within, f.ready.small.steps), omega (arith, s.paid, s.within, f.ready.small.steps), omega (arith, s.counted))

    module _ (going_on : i < end) where
      pub item_within : (3 ≤ row_size nodes i) × (i + row_size nodes i ≤ 65536)
      item_within =
          let s = w.going f.ready.limits f.ready.used f.ready.form f.ready.env f.value f.ready.meets f.bound in
          let g = first_item s.stand going_on in
          let e = value_size g.stands in
          (omega (arith, e, size_some g.value), omega (arith, e, value_within g.stands, f.ready.small.rows))

      -- the part that runs
      abbrev pub part : (row : ℕ) → Cursor
      part row = record { row = row; name = 0; bound = c.bound + 1; begun = begun; steps = steps }

      part_meets_at
          : {l : Limits} {p : List ℕ} {form : Result} {env : List Value} {v : Value} {row : ℕ} → row ≡ parts.after forms (c.row + 3)
          → Meets forms nodes pool bindings₀ limit c.row c.bound l p form env
          → (s : EachState forms nodes pool results₀ limit c behind end l p form env v results i begun steps)
          → Meets forms nodes pool (set bindings c.bound i) limit row (c.bound + 1) l p s.body ((first_item s.stand going_on).value ∷ env)
      unfolding result_levels BoundedNumbers
      part_meets_at {l} {p} {form} {env} {v} {row} e m s =
          go (subst (λ (y : Result). Meets forms nodes pool bindings₀ limit c.row c.bound l p y env) s.same m)
        where
          bd : BoundedNumbers (first_item s.stand going_on).value × BoundedItems (first_item s.stand going_on).others
          bd = subst BoundedItems (first_item s.stand going_on).same s.bounded_left

          go : Meets forms nodes pool bindings₀ limit c.row c.bound l p (Result.each s.place s.inner s.body) env
              → Meets forms nodes pool (set bindings c.bound i) limit row (c.bound + 1) l p s.body ((first_item s.stand going_on).value ∷ env)
          go n =
              part_meets n
              (subst (λ (j : ℕ). FormStands forms p j (c.bound + 1) 0 s.body) (sym e)
              (subst (λ (j : ℕ). FormStands forms p (parts.after forms (c.row + 3)) j 0 s.body) (sym (add-one c.bound))
              (parts.each_result n.stands)))
              (good_body n.good)
              (omega (arith, n.counted))
              (binds_more c.bound n.counted (omega (arith, n.room, w.same_bindings, levels_some s.body))
              (standing (first_item s.stand going_on).stands bd.0)
              (binds_kept c.bound w.bound_kept (omega (arith, n.counted)) n.binds))
              (omega (arith, n.room, w.same_bindings, length-set bindings c.bound i))
            where
              good_body : GoodReader (Result.each s.place s.inner s.body) → GoodReader s.body
              good_body (good_each gp g) = g

      pub part_ready
          : {row : ℕ} → row ≡ parts.after forms (c.row + 3) → Ready forms nodes pool (set bindings c.bound i) results limit (part row)
      part_ready e =
          let r = f.ready in
          let s = w.going r.limits r.used r.form r.env f.value r.meets f.bound in
          record {
            limits = r.limits;
            used = r.used;
            form = s.body;
            env = (first_item s.stand going_on).value ∷ r.env;
            meets = part_meets_at e r.meets s;
            small = record { rows = r.small.rows; parts = omega (arith, r.small.parts, w.same_results); steps = r.small.steps };
            paid = s.paid;
          }

      module _ {row : ℕ} (at_row : row ≡ parts.after forms (c.row + 3)) {bindings' results' : List ℕ} {r : Part}
          (ran : Runs forms nodes pool (set bindings c.bound i) bindings' results results' limit (part row) r) where
        bindings_kept : take c.bound bindings' ≡ take c.bound bindings₀
        bindings_kept = kept_before bindings bindings' c.bound i ran.kept.bound_kept ∙ w.bound_kept

        front_kept : take (3 * c.begun) results' ≡ take (3 * c.begun) results₀
        front_kept =
            sym (take-take (3 * c.begun) (3 * begun) results' (omega (arith, loop_bounds.2)))
            ∙ ap (take (3 * c.begun)) ran.kept.front
            ∙ take-take (3 * c.begun) (3 * begun) results (omega (arith, loop_bounds.2))
            ∙ w.front

        pub part_refused
            : {why : Refusal} → r ≡ Err why
            → Follows forms nodes pool bindings₀ bindings' results₀ results' limit c at behind (Err why)
        part_refused e =
            record {
              kept = record { bound_kept = bindings_kept; front = front_kept };
              told = λ l p form env v m b.
                  let s = w.going l p form env v m b in
                  let g = first_item s.stand going_on in
                  s.whole
                  ∙ ap (λ (vs : Items). laws.items_behind s.done (run_items (λ x n. run s.body l (x ∷ env) n) vs steps)) g.same
                  ∙ laws.each_refused (λ x n. run s.body l (x ∷ env) n) g.value g.others s.done steps
                  (subst (Comes (run s.body l (g.value ∷ env) steps) limit p results results' (part row)) e
                  (ran.told l p s.body (g.value ∷ env) (part_meets_at at_row m s)));
            }

        pub part_done
            : {kind to after n : ℕ} → r ≡ Ok (record { kind = kind; begun = to; steps = after }) → length bindings' ≡ length bindings
            → length results' ≡ length results
            → n ≡ row_size nodes i
            → EachLoop forms nodes pool bindings₀ results₀ limit c at behind end bindings' results' (i + n) to after
        unfolding size BoundedNumbers
        part_done {kind} {to} {after} {n} e lb lr sz =
            record {
              same_bindings = lb ∙ w.same_bindings;
              same_results = lr ∙ w.same_results;
              bound_kept = bindings_kept;
              front = front_kept;
              going = λ l p form env v m b.
                  let s = w.going l p form env v m b in
                  let g = first_item s.stand going_on in
                  let bd : BoundedNumbers g.value × BoundedItems g.others = subst BoundedItems g.same s.bounded_left in
                  let x : Made (run s.body l (g.value ∷ env) steps) limit p results results' (part row) kind to after =
                  subst (Comes (run s.body l (g.value ∷ env) steps) limit p results results' (part row)) e
                  (ran.told l p s.body (g.value ∷ env) (part_meets_at at_row m s)) in
                  record {
                    place = s.place;
                    inner = s.inner;
                    body = s.body;
                    same = s.same;
                    done = item x.value s.done;
                    left = g.others;
                    stand = subst (λ (k : ℕ). ItemsStand nodes p (i + k) end g.others) (sym sz) g.more;
                    bounded_left = bd.1;
                    bounded_done = (x.bounded, s.bounded_done);
                    whole =
                        s.whole
                        ∙ ap (λ (vs : Items). laws.items_behind s.done (run_items (λ y k. run s.body l (y ∷ env) k) vs steps)) g.same
                        ∙ laws.each_on (λ y k. run s.body l (y ∷ env) k) g.value g.others s.done steps x.value after x.ran;
                    counted = omega (arith, s.counted, x.puts.counted);
                    paid = x.paid;
                    more = omega (arith, s.more, x.counted);
                    within = x.left;
                    put = λ h.
                        let q = s.put (omega (arith, h, x.puts.counted)) in
                        let a = x.puts.put (omega (arith, h, w.same_results)) in (
                          q.0 ++ a.rows,
                          item_before q.1 a.encoded,
                          subst (λ (k : ℕ). PartsPut results₀ results' c.begun k (q.0 ++ a.rows)) (sym x.puts.counted) (parts_more q.2 a),
                        );
                  };
            }

    -- ---- the end

    module _ (past : end ≤ i) where
      items_at
          : {l : Limits} {p : List ℕ} {form : Result} {env : List Value} {v : Value} → 3 * begun ≤ length results
          → (s : EachState forms nodes pool results₀ limit c behind end l p form env v results i begun steps)
          → ItemsAt results (3 * c.begun + 3) (3 * begun) p (items_onto s.done no_items)
      unfolding BoundedNumbers
      items_at h s =
          let q = s.put (omega (arith, h, w.same_results)) in
          record {
            stand =
                record {
                  rows = q.0;
                  rest = drop (3 * begun) results;
                  encoded = items_read q.1;
                  placed = parts_stand results₀ results q.2 (omega (arith, h, w.same_results, s.counted));
                  reaches = omega (arith, length_items_before q.1, s.counted);
                };
            bounded = bounded_onto s.done no_items s.bounded_done tt;
          }

      pub closable : ListClosable results c.begun begun
      closable =
          let r = f.ready in
          let s = w.going r.limits r.used r.form r.env f.value r.meets f.bound in
          record {
            items = λ h.
                record {
                  used = r.used;
                  items = items_onto s.done no_items;
                  held = items_at h s;
                  pooled = r.meets.pooled.small;
                  small = omega (arith, r.small.parts, w.same_results);
                };
            later = loop_bounds.2;
            few = omega (arith, loop_bounds.1);
          }

      pub each_ends
          : {results' : List ℕ} → ClosesList results results' c.begun begun c.name
          → Follows forms nodes pool bindings₀ bindings results₀ results' limit c at behind (Ok (record { kind = 5; begun = begun; steps = steps }))
      unfolding size kind_code BoundedNumbers
      each_ends {results'} k =
          record {
            kept = record { bound_kept = w.bound_kept; front = k.front ∙ w.front };
            told = λ l p form env v m b.
                let s = w.going l p form env v m b in
                let sized : size_items (items_onto s.done no_items) ≡ size_items s.done + 0 = size_items_onto s.done no_items in
                record {
                  value = Value.list (items_onto s.done no_items);
                  ran =
                      s.whole
                      ∙ ap (λ (vs : Items). laws.items_behind s.done (run_items (λ x n. run s.body l (x ∷ env) n) vs steps))
                      (no_item_left s.stand past)
                      ∙ laws.each_ends (λ x n. run s.body l (x ∷ env) n) s.done steps;
                  kinded = refl;
                  bounded = bounded_onto s.done no_items s.bounded_done tt;
                  puts =
                      record {
                        counted = omega (arith, s.counted, sized);
                        put = λ h.
                            let room : 3 * begun ≤ length results = omega (arith, h, w.same_results) in
                            let q = s.put h in
                            let total : c.begun + size (Value.list (items_onto s.done no_items)) ≡ begun = omega (arith, s.counted, sized) in
                            record {
                              rows =
                                  head_word (Value.list (items_onto s.done no_items)) ∷ 3 * size (Value.list (items_onto s.done no_items)) ∷ c.name
                                  ∷ q.0;
                              encoded = list_rows (items_read q.1);
                              placed =
                                  ap (λ (n : ℕ). take (3 * n) results') total
                                  ∙ ap (take (3 * begun)) (k.closed room p (items_onto s.done no_items) (items_at room s))
                                  ∙ row_put results c.begun (head_word (Value.list (items_onto s.done no_items)))
                                  (3 * size (Value.list (items_onto s.done no_items))) c.name (omega (arith, room, s.counted)) results₀ q.0 begun
                                  (omega (arith, s.counted)) (omega (arith, h, s.counted)) q.2.placed;
                            };
                      };
                  paid = s.paid;
                  counted = s.more;
                  left = s.within;
                };
          }
