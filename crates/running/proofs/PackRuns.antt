-- What running `pack` answers, result by result. Assumes nothing.
use Prim.Native.Nat.{ℕ, suc, ◌+◌, ◌*◌, ◌^◌, ◌≤◌, ◌<◌}
use native.Mathlib.Numerals.{add-one}
use native.Mathlib.Omega.{arith}
use mathlib.Core.Path.{◌≡◌, refl, sym, ap, ◌∙◌, subst}
use mathlib.Core.List.{List, [], ◌∷◌, ◌++◌, append-nil}
use lib.ListN.{length, get_or, take, drop}
use lib.Seq.{take-take}
use Rattle.definitions.specs.declared.Limits.{Limits}
use Rattle.definitions.specs.Value.{Value, Members, no_members, member, members_onto, size, size_members}
use Rattle.definitions.specs.Bytes.{Bytes}
use Rattle.definitions.specs.Reader.{Result, Pairs, pair}
use Rattle.definitions.specs.Running.{run, run_pairs}
use Rattle.laws.specs.FormGrammar.{result_levels, pairs_levels}
use Rattle.laws.specs.Good.{GoodReader, good_pack, GoodPairs, good_pair}
use Rattle.nodes.specs.Nodes.{kind_code, head_word, Refers, rec_rows, MembersBefore, no_members_before, member_before}
use Rattle.nodes.specs.NodesLaws.{members_read, size_members_onto, length_members_before}
use Rattle.nodes.specs.RowLaws.{row_put}
use Rattle.plain.specs.Table.{BoundedNumbers, BoundedMembers}
use Rattle.forms.specs.Forms.{PairsStand, size_at}
use Rattle.forms.specs.FormsLaws.{stands_code, stands_name, stands_size, stands_within, forms_some}
use Rattle.forms.specs.PartsLaws as parts
use Rattle.std.specs.Prelude.{Ok, Err}
use Rattle.reading.specs.declared.Refusal.{Refusal}
use Rattle.running.specs.declared.going.Cursor.{Cursor}
use Rattle.running.specs.BindingsLaws.{binds_kept}
use Rattle.running.specs.Codes.{IsPack, is_pack, pack_of}
use Rattle.running.specs.FormLaws as laws
use Rattle.running.specs.Rows.{MembersAt, RecordClosable, ClosesRecord}
use Rattle.running.specs.Walk.{Part, Meets, Paid, Ready, Entered, Made, Comes, Runs}
use Rattle.running.proofs.WhenRuns.{part_meets}
use Rattle.running.proofs.EachRuns.{PartsPut, parts_more, parts_stand}

bounded_onto : (done left : Members) → BoundedMembers done → BoundedMembers left → BoundedMembers (members_onto done left)
unfolding members_onto BoundedNumbers
bounded_onto no_members left b d = d
bounded_onto (member n v ms) left b d = bounded_onto ms (member n v left) b.1 (b.0, d)

-- how far it has come: the members made, the latest first, and the pairs left
pub record PackState
    (forms bindings₀ results₀ : List ℕ) (limit : ℕ) (c : Cursor) (end : ℕ) (l : Limits) (p : List ℕ) (form : Result) (env : List Value)
    (results : List ℕ) (row begun steps : ℕ) : Type 0 where
  pub done : Members
  pub left : Pairs
  pub stand : PairsStand forms p row end c.bound left
  pub good : GoodPairs left
  pub levels : c.bound + pairs_levels left ≤ length bindings₀ + 1
  pub bounded_done : BoundedMembers done
  pub whole : run form l env c.steps ≡ laws.members_behind done (run_pairs left l env steps)
  pub counted : begun ≡ suc c.begun + size_members done
  pub paid : Paid begun steps
  pub more : c.steps < steps
  pub within : steps ≤ limit
  pub put : 3 * begun ≤ length results₀ → (rows : List ℕ) × MembersBefore p done rows × PartsPut results₀ results c.begun begun rows

pub record PackLoop
    (forms nodes pool bindings₀ results₀ : List ℕ) (limit : ℕ) (c : Cursor) (end : ℕ) (bindings results : List ℕ) (row begun steps : ℕ) : Type 0 where
  pub same_bindings : length bindings ≡ length bindings₀
  pub same_results : length results ≡ length results₀
  pub bound_kept : take c.bound bindings ≡ take c.bound bindings₀
  pub front : take (3 * c.begun) results ≡ take (3 * c.begun) results₀
  pub later : c.row < row
  pub going
      : (l : Limits) (p : List ℕ) (form : Result) (env : List Value) → Meets forms nodes pool bindings₀ limit c.row c.bound l p form env
      → PackState forms bindings₀ results₀ limit c end l p form env results row begun steps

module _ {forms nodes pool bindings₀ results₀ : List ℕ} {limit : ℕ} {c : Cursor} (f : Entered forms nodes pool bindings₀ results₀ limit c 17) where
  pub pack_within : (parts.after forms c.row ≤ length forms) × (c.row + 3 ≤ length forms) × (c.begun + 1 ≤ 2 ^ 60) × (c.steps + 1 ≤ 65536)
  pack_within =
      let m = f.ready.meets in
      let h = stands_within m.stands in (
        omega (arith, h, stands_size m.stands),
        omega (arith, h, forms_some f.ready.form),
        omega (arith, f.ready.paid, f.left, f.ready.small.steps),
        omega (arith, f.left, f.ready.small.steps),
      )

  pub pack_begins
      : {end : ℕ} → end ≡ parts.after forms c.row
      → PackLoop forms nodes pool bindings₀ results₀ limit c end bindings₀ results₀ (c.row + 3) (c.begun + 1) (c.steps + 1)
  unfolding BoundedNumbers size result_levels
  pack_begins {end} e =
      record {
        same_bindings = refl;
        same_results = refl;
        bound_kept = refl;
        front = refl;
        later = omega arith;
        going = λ l p form env m. go (pack_of form (sym (stands_code m.stands) ∙ f.coded)) l p env m;
      }
    where
      good_of : {a : ℕ} {ps : Pairs} → GoodReader (Result.pack a ps) → GoodPairs ps
      good_of (good_pack g) = g

      go : {form : Result} → IsPack form → (l : Limits) (p : List ℕ) (env : List Value)
          → Meets forms nodes pool bindings₀ limit c.row c.bound l p form env
          → PackState forms bindings₀ results₀ limit c end l p form env results₀ (c.row + 3) (c.begun + 1) (c.steps + 1)
      go (is_pack {at = a} {ps}) l p env m =
          record {
            done = no_members;
            left = ps;
            stand = subst (λ (i : ℕ). PairsStand forms p (c.row + 3) i c.bound ps) (sym e) (parts.pack_stands m.stands);
            good = good_of m.good;
            levels = omega (arith, m.room);
            bounded_done = tt;
            whole =
                laws.pack_entered a ps l env c.steps (omega (arith, f.left, m.limited))
                ∙ ap (λ (n : ℕ). laws.members_behind no_members (run_pairs ps l env n)) (sym (add-one c.steps));
            counted = omega arith;
            paid = omega (arith, f.ready.paid);
            more = omega arith;
            within = omega (arith, f.left);
            put = λ h. (
              [],
              no_members_before,
              record {
                placed = ap (λ (n : ℕ). take (3 * n) results₀) (add-one c.begun) ∙ sym (append-nil (take (3 * suc c.begun) results₀));
              },
            );
          }

  module _ {end : ℕ} {bindings results : List ℕ} {row begun steps : ℕ}
      (w : PackLoop forms nodes pool bindings₀ results₀ limit c end bindings results row begun steps) where
    pub loop_bounds : (steps ≤ 65536) × (begun ≤ 65536 + 65536 * 65536) × (c.begun < begun)
    loop_bounds =
        let s = w.going f.ready.limits f.ready.used f.ready.form f.ready.env f.ready.meets in
        (omega (arith, s.within, f.ready.small.steps), omega (arith, s.paid, s.within, f.ready.small.steps), omega (arith, s.counted))

    module _ (going_on : row < end) where
      pub pair_within : (3 ≤ size_at forms row) × (row + size_at forms row ≤ length forms)
      pair_within =
          let s = w.going f.ready.limits f.ready.used f.ready.form f.ready.env f.ready.meets in
          let g = parts.first_pair s.stand going_on in
          let e = stands_size g.stands in
          (omega (arith, e, forms_some g.result), omega (arith, e, stands_within g.stands))

      -- the part that runs
      abbrev pub part : (name : ℕ) → Cursor
      part name = record { row = row; name = name; bound = c.bound; begun = begun; steps = steps }

      -- the result, with its name's word
      record PairMeets (name : ℕ) (l : Limits) (p : List ℕ) (form : Result) (env : List Value) (left : Pairs) : Type 0 where
        text : Bytes
        result : Result
        others : Pairs
        same : left ≡ pair text result others
        refers : Refers p text name
        meets : Meets forms nodes pool bindings limit row c.bound l p result env
        more : PairsStand forms p (parts.after forms row) end c.bound others
        good : GoodPairs others
        levels : c.bound + pairs_levels others ≤ length bindings₀ + 1

      pair_meets
          : {name : ℕ} → name ≡ get_or forms (row + 2) 0 → {l : Limits} {p : List ℕ} {form : Result} {env : List Value}
          → Meets forms nodes pool bindings₀ limit c.row c.bound l p form env
          → (s : PackState forms bindings₀ results₀ limit c end l p form env results row begun steps) → PairMeets name l p form env s.left
      unfolding result_levels
      pair_meets {name} e {l} {p} {form} {env} m s =
          let g = parts.first_pair s.stand going_on in
          go g (subst GoodPairs g.same s.good) (subst (λ (ps : Pairs). c.bound + pairs_levels ps ≤ length bindings₀ + 1) g.same s.levels)
        where
          go : (g : parts.FirstPair forms p row end c.bound s.left) → GoodPairs (pair g.name g.result g.others)
              → c.bound + pairs_levels (pair g.name g.result g.others) ≤ length bindings₀ + 1 → PairMeets name l p form env s.left
          go g (good_pair gn gr gs) h =
              record {
                text = g.name;
                result = g.result;
                others = g.others;
                same = g.same;
                refers = subst (Refers p g.name) (sym (e ∙ stands_name g.stands)) g.refers;
                meets =
                    part_meets m g.stands gr m.counted (binds_kept c.bound w.bound_kept (omega (arith, m.counted)) m.binds)
                    (omega (arith, h, w.same_bindings));
                more = g.more;
                good = gs;
                levels = omega (arith, h);
              }

      pub part_ready : {name : ℕ} → name ≡ get_or forms (row + 2) 0 → Ready forms nodes pool bindings results limit (part name)
      part_ready e =
          let r = f.ready in
          let s = w.going r.limits r.used r.form r.env r.meets in
          let k = pair_meets e r.meets s in
          record {
            limits = r.limits;
            used = r.used;
            form = k.result;
            env = r.env;
            meets = k.meets;
            small = record { rows = r.small.rows; parts = omega (arith, r.small.parts, w.same_results); steps = r.small.steps };
            paid = s.paid;
          }

      module _ {name : ℕ} (named : name ≡ get_or forms (row + 2) 0) {bindings' results' : List ℕ} {r : Part}
          (ran : Runs forms nodes pool bindings bindings' results results' limit (part name) r) where
        front_kept : take (3 * c.begun) results' ≡ take (3 * c.begun) results₀
        front_kept =
            sym (take-take (3 * c.begun) (3 * begun) results' (omega (arith, loop_bounds.2)))
            ∙ ap (take (3 * c.begun)) ran.kept.front
            ∙ take-take (3 * c.begun) (3 * begun) results (omega (arith, loop_bounds.2))
            ∙ w.front

        pub part_refused
            : {why : Refusal} → r ≡ Err why
            → Runs forms nodes pool bindings₀ bindings' results₀ results' limit c (Err why)
        part_refused e =
            record {
              kept = record { bound_kept = ran.kept.bound_kept ∙ w.bound_kept; front = front_kept };
              told = λ l p form env m.
                  let s = w.going l p form env m in
                  let k = pair_meets named m s in
                  s.whole
                  ∙ ap (λ (ps : Pairs). laws.members_behind s.done (run_pairs ps l env steps)) k.same
                  ∙ laws.pack_refused k.text k.result k.others l env s.done steps
                  (subst (Comes (run k.result l env steps) limit p results results' (part name)) e (ran.told l p k.result env k.meets));
            }

        pub part_done
            : {kind to after n : ℕ} → r ≡ Ok (record { kind = kind; begun = to; steps = after }) → length bindings' ≡ length bindings
            → length results' ≡ length results
            → n ≡ size_at forms row
            → PackLoop forms nodes pool bindings₀ results₀ limit c end bindings' results' (row + n) to after
        unfolding size BoundedNumbers
        part_done {kind} {to} {after} {n} e lb lr sz =
            record {
              same_bindings = lb ∙ w.same_bindings;
              same_results = lr ∙ w.same_results;
              bound_kept = ran.kept.bound_kept ∙ w.bound_kept;
              front = front_kept;
              later = omega (arith, w.later);
              going = λ l p form env m.
                  let s = w.going l p form env m in
                  let k = pair_meets named m s in
                  let x : Made (run k.result l env steps) limit p results results' (part name) kind to after =
                  subst (Comes (run k.result l env steps) limit p results results' (part name)) e (ran.told l p k.result env k.meets) in
                  record {
                    done = member k.text x.value s.done;
                    left = k.others;
                    stand = subst (λ (i : ℕ). PairsStand forms p (row + i) end c.bound k.others) (sym sz) k.more;
                    good = k.good;
                    levels = k.levels;
                    bounded_done = (x.bounded, s.bounded_done);
                    whole =
                        s.whole
                        ∙ ap (λ (ps : Pairs). laws.members_behind s.done (run_pairs ps l env steps)) k.same
                        ∙ laws.pack_on k.text k.result k.others l env s.done steps x.value after x.ran;
                    counted = omega (arith, s.counted, x.puts.counted);
                    paid = x.paid;
                    more = omega (arith, s.more, x.counted);
                    within = x.left;
                    put = λ h.
                        let q = s.put (omega (arith, h, x.puts.counted)) in
                        let a = x.puts.put (omega (arith, h, w.same_results)) in (
                          q.0 ++ a.rows,
                          member_before q.1 k.refers a.encoded,
                          subst (λ (i : ℕ). PartsPut results₀ results' c.begun i (q.0 ++ a.rows)) (sym x.puts.counted) (parts_more q.2 a),
                        );
                  };
            }

    -- ---- the end

    module _ (past : end ≤ row) where
      members_at
          : {l : Limits} {p : List ℕ} {form : Result} {env : List Value} → 3 * begun ≤ length results
          → Meets forms nodes pool bindings₀ limit c.row c.bound l p form env
          → (s : PackState forms bindings₀ results₀ limit c end l p form env results row begun steps)
          → MembersAt results pool (3 * c.begun + 3) (3 * begun) p (members_onto s.done no_members)
      unfolding BoundedNumbers
      members_at h m s =
          let q = s.put (omega (arith, h, w.same_results)) in
          record {
            stand =
                record {
                  rows = q.0;
                  rest = drop (3 * begun) results;
                  encoded = members_read q.1;
                  placed = parts_stand results₀ results q.2 (omega (arith, h, w.same_results, s.counted));
                  reaches = omega (arith, length_members_before q.1, s.counted);
                };
            bounded = bounded_onto s.done no_members s.bounded_done tt;
            pooled = m.pooled;
          }

      pub closable : RecordClosable results pool c.begun begun
      closable =
          let r = f.ready in
          let s = w.going r.limits r.used r.form r.env r.meets in
          record {
            members = λ h.
                record {
                  used = r.used;
                  members = members_onto s.done no_members;
                  held = members_at h r.meets s;
                  small = omega (arith, r.small.parts, w.same_results);
                };
            later = loop_bounds.2;
            few = omega (arith, loop_bounds.1);
          }

      pub pack_ends
          : {results' : List ℕ} → ClosesRecord results results' pool c.begun begun c.name
          → Runs forms nodes pool bindings₀ bindings results₀ results' limit c (Ok (record { kind = 6; begun = begun; steps = steps }))
      unfolding size kind_code BoundedNumbers
      pack_ends {results'} k =
          record {
            kept = record { bound_kept = w.bound_kept; front = k.front ∙ w.front };
            told = λ l p form env m.
                let s = w.going l p form env m in
                let sized : size_members (members_onto s.done no_members) ≡ size_members s.done + 0 = size_members_onto s.done no_members in
                record {
                  value = Value.rec (members_onto s.done no_members);
                  ran =
                      s.whole
                      ∙ ap (λ (ps : Pairs). laws.members_behind s.done (run_pairs ps l env steps)) (parts.no_pair_left s.stand past)
                      ∙ laws.pack_ends l env s.done steps;
                  kinded = refl;
                  bounded = bounded_onto s.done no_members s.bounded_done tt;
                  puts =
                      record {
                        counted = omega (arith, s.counted, sized);
                        put = λ h.
                            let room : 3 * begun ≤ length results = omega (arith, h, w.same_results) in
                            let q = s.put h in
                            let total : c.begun + size (Value.rec (members_onto s.done no_members)) ≡ begun = omega (arith, s.counted, sized) in
                            record {
                              rows =
                                  head_word (Value.rec (members_onto s.done no_members)) ∷ 3 * size (Value.rec (members_onto s.done no_members)) ∷ c.name
                                  ∷ q.0;
                              encoded = rec_rows (members_read q.1);
                              placed =
                                  ap (λ (n : ℕ). take (3 * n) results') total
                                  ∙ ap (take (3 * begun)) (k.closed room p (members_onto s.done no_members) (members_at room m s))
                                  ∙ row_put results c.begun (head_word (Value.rec (members_onto s.done no_members)))
                                  (3 * size (Value.rec (members_onto s.done no_members))) c.name (omega (arith, room, s.counted)) results₀ q.0 begun
                                  (omega (arith, s.counted)) (omega (arith, h, s.counted)) q.2.placed;
                            };
                      };
                  paid = s.paid;
                  counted = s.more;
                  left = s.within;
                };
          }
