-- Elements joined into an element one after the other. Assumes nothing.
use Prim.Native.Nat.{ℕ, ◌+◌, ◌*◌, ◌≤◌, ◌<◌}
use native.Mathlib.Omega.{arith}
use mathlib.Core.Path.{◌≡◌, refl, sym, ap, subst, ◌∙◌}
use mathlib.Core.Bool.{true, ◌&&◌}
use mathlib.Core.List.{List}
use lib.ListN.{length, take, drop}
use Rattle.definitions.specs.Value.{Value, Items, item}
use Rattle.definitions.specs.Shape.{Shape, ascending, forms}
use Rattle.laws.specs.Bools.{and_left, and_right}
use Rattle.laws.specs.Distinct.{distinct, distinct_items}
use Rattle.nodes.specs.Nodes.{row_size}
use Rattle.nodes.specs.Standing.{ItemsStand, FirstItem}
use Rattle.nodes.specs.StandingLaws.{size_some, value_size, value_within, first_item, no_item_left}
use Rattle.plain.specs.Table.{BoundedNumbers, BoundedItems}
use Rattle.shapes.specs.Shapes.{ShapeRows}
use Rattle.shapes.specs.ShapesLaws.{length_shape_rows}
use Rattle.join.specs.Replacing.{Put, Over, Becomes}
use Rattle.join.specs.ReplacingLaws.{Split, split_used, stands_split, split_stands, replaced_split}
use Rattle.std.specs.Prelude.{Option}
use Rattle.std.specs.Prelude.{Some, None}
use Rattle.growing.specs.Rows.{Room}
use Rattle.growing.specs.StepLaws.{replaced_then}
use Rattle.growing.specs.HeadLaws.{kept_put}
use Rattle.infer.specs.Infer.{infer_into, infer_items}
use Rattle.infer.specs.InferForms.{forms_infer_items}
use Rattle.infer.specs.InferLaws.{infer_ascending}
use Rattle.infer.specs.Inferring.{Meets, Inferable, Infers, MeetsItems, ItemsInferable, InfersItems}

pub record ItemsGoing
    (shapes₀ nodes : List ℕ) (used row end : ℕ) (p : List ℕ) (m : ℕ) (s : Shape) (vs : Items) (shapes : List ℕ) (i grown : ℕ) : Type 0 where
  pub reached : Shape
  pub left : Items
  pub put : Put shapes₀ shapes used grown row (2 * forms s) (ShapeRows p m reached)
  pub held : ItemsStand nodes p i end left
  pub bounded : BoundedItems left
  pub ascends : ascending reached ≡ true
  pub once : distinct_items left ≡ true
  pub same : infer_items vs s ≡ infer_items left reached

pub record ItemsLoop (shapes₀ nodes pool : List ℕ) (used row at end : ℕ) (shapes : List ℕ) (i grown : ℕ) : Type 0 where
  pub same : length shapes ≡ length shapes₀
  pub ahead : at ≤ i
  pub going
      : (p : List ℕ) (m : ℕ) (s : Shape) (vs : Items) → MeetsItems shapes₀ nodes pool used row at end p m s vs
      → ItemsGoing shapes₀ nodes used row end p m s vs shapes i grown

pub items_begin
    : (shapes nodes pool : List ℕ) (used row at end : ℕ) → used ≤ length shapes
    → ItemsLoop shapes nodes pool used row at end shapes at 0
items_begin shapes nodes pool used row at end j =
    record {
      same = refl;
      ahead = omega arith;
      going = λ p m s vs h.
          record {
            reached = s;
            left = vs;
            put = kept_put h.stands h.within j;
            held = h.held;
            bounded = h.bounded;
            ascends = h.ascends;
            once = h.once;
            same = refl;
          };
    }

bounded_first : (v : Value) (vs ws : Items) → ws ≡ item v vs → BoundedItems ws → BoundedNumbers v × BoundedItems vs
unfolding BoundedNumbers
bounded_first v vs ws e b = subst BoundedItems e b

once_first : (v : Value) (vs ws : Items) → ws ≡ item v vs → distinct_items ws ≡ true → (distinct v ≡ true) × (distinct_items vs ≡ true)
unfolding distinct
once_first v vs ws e d =
    let both : distinct v && distinct_items vs ≡ true = ap distinct_items (sym e) ∙ d in
    (and_left (distinct v) (distinct_items vs) both, and_right (distinct v) (distinct_items vs) both)

inferred_first : (v : Value) (vs ws : Items) (s : Shape) → ws ≡ item v vs → infer_items ws s ≡ infer_items vs (infer_into v s)
unfolding infer_into
inferred_first v vs ws s e = ap (λ (x : Items). infer_items x s) e

module _
    {shapes₀ nodes pool : List ℕ} {used row at end : ℕ} {shapes : List ℕ} {i grown : ℕ}
    (room : Room shapes₀ used)
    (l : ItemsLoop shapes₀ nodes pool used row at end shapes i grown)
    (more : i < end)
  where
    module _ {p : List ℕ} {m : ℕ} {s : Shape} {vs : Items} (h : MeetsItems shapes₀ nodes pool used row at end p m s vs) where
      abbrev pub here : ItemsGoing shapes₀ nodes used row end p m s vs shapes i grown
      here = l.going p m s vs h

      abbrev pub next : FirstItem nodes p i end here.left
      next = first_item here.held more

      counts : 2 * forms here.reached ≡ 2 * forms s + grown
      counts = sym (length_shape_rows here.put.encoded) ∙ here.put.replaced.grown

      now_split
          : Split
          shapes
          (used + grown)
          row
          (2 * forms s + grown)
          (take row shapes₀)
          here.put.rows
          (drop (row + 2 * forms s) (take used shapes₀))
      now_split = replaced_split (stands_split h.stands h.within room.enough) here.put.replaced

      next_once : (distinct next.value ≡ true) × (distinct_items next.others ≡ true)
      next_once = once_first next.value next.others here.left next.same here.once

      pub items_meet : Meets shapes nodes pool (used + grown) row i p m here.reached 0 next.value
      items_meet =
          record {
            pooled = h.pooled;
            stands = split_stands now_split here.put.encoded;
            within = omega (arith, counts, split_used now_split);
            held = next.stands;
            bounded = (bounded_first next.value next.others here.left next.same here.bounded).0;
            ascends = here.ascends;
            once = next_once.0;
          }

      pub items_on
          : {shapes' : List ℕ} {words : ℕ}
          → Put shapes shapes' (used + grown) words row (2 * forms here.reached) (ShapeRows p m (infer_into next.value here.reached))
          → ItemsGoing shapes₀ nodes used row end p m s vs shapes' (i + row_size nodes i) (grown + words)
      items_on q =
          record {
            reached = infer_into next.value here.reached;
            left = next.others;
            put =
                record {
                  rows = q.rows;
                  encoded = q.encoded;
                  replaced = replaced_then (stands_split h.stands h.within room.enough) here.put.replaced counts q.replaced;
                };
            held = next.more;
            bounded = (bounded_first next.value next.others here.left next.same here.bounded).1;
            ascends = infer_ascending next.value here.reached here.ascends next_once.0;
            once = next_once.1;
            same = here.same ∙ inferred_first next.value next.others here.left here.reached next.same;
          }

      pub items_over
          : {shapes' : List ℕ} → Over shapes shapes' (used + grown) (2 * forms here.reached) (2 * forms (infer_into next.value here.reached))
          → Over shapes₀ shapes' used (2 * forms s) (2 * forms (infer_items vs s))
      items_over o =
          record {
            over =
                omega (
                  arith,
                  o.over,
                  counts,
                  l.same,
                  forms_infer_items next.others (infer_into next.value here.reached),
                  ap forms (here.same ∙ inferred_first next.value next.others here.left here.reached next.same),
                );
            same = o.same ∙ l.same;
          }

      pub items_size : (3 ≤ row_size nodes i) × (i + row_size nodes i ≤ length nodes) × (i + row_size nodes i ≤ end)
      items_size = (
        omega (arith, value_size next.stands, size_some next.value),
        omega (arith, value_size next.stands, value_within next.stands),
        omega (arith, next.more.reaches),
      )

      -- its row is there
      pub items_row : i + 1 < length nodes
      items_row = omega (arith, items_size.0, items_size.1)

      pub items_room : used + grown ≤ length shapes₀
      items_room = here.put.replaced.within

    pub items_inferable : ItemsInferable shapes₀ nodes pool used row at end → Inferable shapes nodes pool (used + grown) row i
    items_inferable w =
        record {
          part = w.part;
          name = w.name;
          old = (here w.meets).reached;
          label = 0;
          value = (next w.meets).value;
          meets = items_meet w.meets;
        }

    pub items_full
        : (shapes' : List ℕ) (o : Option ℕ) → Infers shapes nodes pool shapes' (used + grown) row i o → o ≡ None
        → InfersItems shapes₀ nodes pool shapes' used row at end None
    items_full shapes' o q e p m s vs h =
        items_over h
        (subst
        (λ (x : Option ℕ). Becomes shapes shapes' p (used + grown) row m (here h).reached (infer_into (next h).value (here h).reached) x)
        e
        (q p m (here h).reached 0 (next h).value (items_meet h)))

    module _ (shapes' : List ℕ) (o : Option ℕ) {words : ℕ} (q : Infers shapes nodes pool shapes' (used + grown) row i o) (e : o ≡ Some words) where
      put_now
          : {p : List ℕ} {m : ℕ} {s : Shape} {vs : Items} (h : MeetsItems shapes₀ nodes pool used row at end p m s vs)
          → Put shapes shapes' (used + grown) words row (2 * forms (here h).reached) (ShapeRows p m (infer_into (next h).value (here h).reached))
      put_now {p} {m} h =
          subst
          (λ (x : Option ℕ). Becomes shapes shapes' p (used + grown) row m (here h).reached (infer_into (next h).value (here h).reached) x)
          e
          (q p m (here h).reached 0 (next h).value (items_meet h))

      pub items_loop_on
          : {n : ℕ} → n ≡ row_size nodes i → length shapes' ≡ length shapes
          → ItemsLoop shapes₀ nodes pool used row at end shapes' (i + n) (grown + words)
      items_loop_on z c =
          record {
            same = c ∙ l.same;
            ahead = omega (arith, l.ahead);
            going = λ p m s vs h.
                subst (λ (x : ℕ). ItemsGoing shapes₀ nodes used row end p m s vs shapes' (i + x) (grown + words)) (sym z) (items_on h (put_now h));
          }

      pub items_grown : ItemsInferable shapes₀ nodes pool used row at end → used + (grown + words) ≤ length shapes₀
      items_grown w = (items_on w.meets (put_now w.meets)).put.replaced.within

pub items_end
    : {shapes₀ nodes pool : List ℕ} {used row at end : ℕ} {shapes : List ℕ} {i grown : ℕ}
    → ItemsLoop shapes₀ nodes pool used row at end shapes i grown → end ≤ i
    → InfersItems shapes₀ nodes pool shapes used row at end (Some grown)
unfolding infer_into
items_end l past p m s vs h =
    let g = l.going p m s vs h in
    let e : infer_items vs s ≡ g.reached = g.same ∙ ap (λ (x : Items). infer_items x g.reached) (no_item_left g.held past) in
    record {
      rows = g.put.rows;
      encoded = subst (λ (x : Shape). ShapeRows p m x g.put.rows) (sym e) g.put.encoded;
      replaced = g.put.replaced;
    }
