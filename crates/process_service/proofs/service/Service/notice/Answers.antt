use Rattle.std.proofs.Common.{ℕ, ◌≡◌, ◌++◌, List, [], refl, ap, sym, subst, ◌∙◌}
use Rattle.std.specs.List.{range_with_len}
use Rattle.group_types.specs.Dimensions.{Dimensions}
use Rattle.membership.specs.Members.{Membership}
use Rattle.group_run.specs.Applying.{ProcessStep, Settlement, for_each}
use Rattle.group_run.specs.Heading.{judge}
use Rattle.group_run.specs.Process.{Process}
use Rattle.group_run.specs.Receiving.{take_over_if}
use Rattle.head_service.specs.Serving.{Serving, serving}
use Rattle.process_service.specs.Noticing.{adoptions, bereaved, successors}
use Rattle.process_service.specs.Standing.{IsBeneath}
use Rattle.process_service.specs.Steps.{HasMade, after_mourning}
use Rattle.process_service.specs.contracts.service.Service.{the_view}
use Rattle.process_service.proofs.Each.{step-is}
use Rattle.process_service.proofs.Mourning.{judged-successors, judges-keep, mourned-sent, view}
use Rattle.process_service.proofs.Taken.{viewed}
use Rattle.process_service.proofs.service.Service.notice.Given as given
use Rattle.process_service.proofs.service.Service.notice.Goals as goal

-- what is kept once the death is known, and all is judged
module _ (g : given.Over) (c : goal.After-settled-2-1 g) where
  abbrev s : Dimensions
  s = c.args.self.now.shape

  abbrev v : Serving
  v = bereaved c.args.dead c.args.self.now

  abbrev b : Process
  b = (g.B.Beneath.storage c.args.below.now).process

  abbrev w : Serving
  w = c.judge_all.new.self

  abbrev b2 : Process
  b2 = (g.B.Beneath.storage c.judge_all.new.below).process

  abbrev ds : List ℕ
  ds = range_with_len 0 s.k

  known-is : record (the_view c.self.inside) { known = c.args.notice.known } ≡ v
  known-is = ap (λ (x : Serving). record x { known = c.args.notice.known }) c.self.view_is
      ∙ ap (λ (x : Membership). record (c.args.self.now) { known = x }) c.requires.prepared.known_is

  shape-is : (the_view c.self.inside).shape ≡ s
  shape-is = ap (λ (x : Serving). x.shape) c.self.view_is

  abbrev judged : ProcessStep
  judged = for_each ds (judge s) (serving v b)

  made : HasMade judged [] (serving w b2) c.judge_all.new.settled.items
  made = subst (λ (before : List Settlement). HasMade judged before (serving w b2) c.judge_all.new.settled.items) c.requires.settled
      (subst (λ (x : Serving). HasMade (for_each ds (judge s) (serving x b)) c.args.notice.settled.items (serving w b2) c.judge_all.new.settled.items) known-is
      (subst (λ (x : Dimensions).
      HasMade (for_each (range_with_len 0 x.k) (judge x)
      (serving (record (the_view c.self.inside) { known = c.args.notice.known }) b)) c.args.notice.settled.items
      (serving w b2) c.judge_all.new.settled.items) shape-is c.judge_all.ensures.made))

  w-shape : s ≡ w.shape
  w-shape = sym (c.judge_all.ensures.stays.shape ∙ shape-is)

  kept-successors : successors v ds ≡ successors w ds
  kept-successors = sym (ap (λ (x : Serving). successors x ds) (sym (viewed s w b2 c.judge_all.ensures.stays.beneath.name w-shape))
      ∙ ap (λ (p : Process). successors (view s p) ds) made.process
      ∙ judged-successors s ds (serving v b) judged.process (judges-keep s ds (serving v b))
      ∙ ap (λ (x : Serving). successors x ds) (viewed s v b c.requires.beneath.name refl))

pub judge_all-requires-clause-beneath : goal.judge_all-requires-clause-beneath
judge_all-requires-clause-beneath g c =
    let old : IsBeneath (the_view c.self.inside) (g.B.Beneath.storage c.args.below.now)
    = subst (λ (x : Serving). IsBeneath x (g.B.Beneath.storage c.args.below.now)) (sym c.self.view_is) c.requires.beneath in
    record { shape = old.shape; name = old.name; blocks = old.blocks; ready = old.ready }

pub returns-clause-stays : goal.returns-clause-stays
returns-clause-stays g c = record {
  shape = c.take_over_all.ensures.stays.shape ∙ c.judge_all.ensures.stays.shape ∙ ap (λ (w : Serving). w.shape) c.self.view_is;
  name = c.take_over_all.ensures.stays.name ∙ c.judge_all.ensures.stays.name ∙ ap (λ (w : Serving). w.name) c.self.view_is;
  beneath = c.take_over_all.ensures.stays.beneath;
  pages = c.take_over_all.ensures.stays.pages ∙ c.judge_all.ensures.stays.pages;
}

pub take_over_all-requires-clause-heads : goal.take_over_all-requires-clause-heads
take_over_all-requires-clause-heads g c = c.requires.prepared.heads_are ∙ kept-successors g c
    ∙ ap (λ (x : Dimensions). successors c.judge_all.new.self (range_with_len 0 x.k)) (w-shape g c)

pub returns-clause-step : goal.returns-clause-step
returns-clause-step g c =
    let f : goal.After-settled-2-1 g = c.before.before in
    let p : Process = serving (v g f) (b g f) in
    let q : Process = serving c.take_over_all.new.self (g.B.Beneath.storage c.take_over_all.new.below).process in
    let taken : HasMade (for_each (ds g f) (take_over_if (s g f)) (judged g f).process) c.judge_all.new.settled.items q c.take_over_all.new.settled.items
    = subst (λ (x : Process). HasMade (for_each (ds g f) (take_over_if (s g f)) x) c.judge_all.new.settled.items q
    c.take_over_all.new.settled.items) (made g f).process
    (subst (λ (x : Dimensions). HasMade (for_each (range_with_len 0 x.k) (take_over_if x) (serving (w g f) (b2 g f)))
    c.judge_all.new.settled.items q c.take_over_all.new.settled.items) (sym (w-shape g f))
    c.take_over_all.ensures.made) in
    step-is (after_mourning (s g f) p) q (adoptions (v g f) (ds g f)) c.take_over_all.new.settled.items (sym taken.process)
    (mourned-sent (s g f) p ∙ ap (λ (x : Serving). adoptions x (ds g f)) (viewed (s g f) (v g f) (b g f) c.requires.beneath.name refl))
    (sym (taken.settled ∙ ap (λ (xs : List Settlement). xs ++ (for_each (ds g f) (take_over_if (s g f)) (judged g f).process).settled) (made g f).settled))
