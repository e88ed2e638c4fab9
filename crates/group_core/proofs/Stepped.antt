-- A step of the group, from what its nodes and its books make.
use Rattle.std.proofs.Common.{◌≡◌, List, Option, sym, ap, subst, ◌∙◌}
use Rattle.group_calls.specs.declared.event.Answer.{Answer}
use Rattle.group_calls.specs.declared.event.Event.{Event}
use Rattle.group_run.specs.Applying.{Settlement}
use Rattle.group_run.specs.Headline.{MayCome}
use Rattle.group_run.specs.Process.{Node}
use Rattle.group_run.specs.World.{AskedCall, GroupStep, World, call_of, group_step, step}
use Rattle.group_ledger.specs.Books.{Books, Once, recorded, settled_by, world_of}
use Rattle.group_core.specs.Runs.{HasRun, group_from}
use Rattle.group_core.specs.Seats.{Seats}
use Rattle.group_core.proofs.Runs.{entries-differ, goes-on}
use Rattle.group_types.specs.Dimensions.{Dimensions}

group-is : (v : Seats) (b : Books) → v.shape ≡ b.shape → group_from v b ≡ world_of v.nodes b
group-is v b same = ap (λ (s : Dimensions). group_from (record { shape = s; nodes = v.nodes }) b) same

next-is : (nodes : List Node) (b : Books) (e : Event) (g : GroupStep) (call : Option AskedCall)
    → group_step (world_of nodes b) e ≡ g → call ≡ call_of (world_of nodes b) e
    → (step (world_of nodes b) e).world ≡ world_of g.nodes (recorded call g.answer g.settled b)
next-is nodes b e g call is called =
    ap (λ (x : GroupStep). world_of x.nodes (recorded (call_of (world_of nodes b) e) x.answer x.settled b)) is
    ∙ ap (λ (o : Option AskedCall). world_of g.nodes (recorded o g.answer g.settled b)) (sym called)

log-is : (nodes : List Node) (b : Books) (e : Event) (g : GroupStep) (call : Option AskedCall)
    → group_step (world_of nodes b) e ≡ g → call ≡ call_of (world_of nodes b) e
    → (step (world_of nodes b) e).turn.logged ≡ (settled_by call g.answer g.settled b).logged
log-is nodes b e g call is called =
    ap (λ (x : GroupStep). (settled_by (call_of (world_of nodes b) e) x.answer x.settled b).logged) is
    ∙ ap (λ (o : Option AskedCall). (settled_by o g.answer g.settled b).logged) (sym called)

pub settled-as : (g : GroupStep) (nodes : List Node) (answer : Answer) (xs ys : List Settlement)
    → g ≡ record { nodes = nodes; answer = answer; settled = xs } → ys ≡ xs
    → g ≡ record { nodes = nodes; answer = answer; settled = ys }
settled-as g nodes answer xs ys is same = is ∙ (λ i. record { nodes = nodes; answer = answer; settled = (sym same) i })

module _ (v u : Seats) (b : Books) (e : Event) (answer : Answer) (settled : List Settlement) (call : Option AskedCall) (shape : v.shape ≡ b.shape)
    (is : group_step (group_from v b) e ≡ record { nodes = u.nodes; answer = answer; settled = settled }) (called : call ≡ call_of (group_from v b) e) where
  same-group : group_from v b ≡ world_of v.nodes b
  same-group = group-is v b shape

  abbrev g : GroupStep
  g = record { nodes = u.nodes; answer = answer; settled = settled }

  made-there : group_step (world_of v.nodes b) e ≡ g
  made-there = subst (λ (w : World). group_step w e ≡ g) same-group is

  called-there : call ≡ call_of (world_of v.nodes b) e
  called-there = subst (λ (w : World). call ≡ call_of w e) same-group called

  pub logged-is : (step (group_from v b) e).turn.logged ≡ (settled_by call answer settled b).logged
  logged-is = ap (λ (w : World). (step w e).turn.logged) same-group ∙ log-is v.nodes b e g call made-there called-there

  pub answer-is : (step (group_from v b) e).turn.answer ≡ answer
  answer-is = ap (λ (x : GroupStep). x.answer) is

  pub once-logged : HasRun (group_from v b) → MayCome (group_from v b) e → Once (settled_by call answer settled b).logged
  once-logged has may = subst Once logged-is (entries-differ (group_from v b) e has may)

  module _ (c : Books) (books : c ≡ recorded call answer settled b) (kept : u.shape ≡ v.shape) where
    pub still-one : u.shape ≡ c.shape
    still-one = kept ∙ shape ∙ sym (ap (λ (x : Books). x.shape) books)

    pub world-is : group_from u c ≡ (step (group_from v b) e).world
    world-is = group-is u c still-one ∙ ap (world_of u.nodes) books
        ∙ sym (ap (λ (w : World). (step w e).world) same-group ∙ next-is v.nodes b e g call made-there called-there)

    pub run-on : HasRun (group_from v b) → MayCome (group_from v b) e → HasRun (group_from u c)
    run-on has may = subst HasRun (sym world-is) (goes-on (group_from v b) e has may)
