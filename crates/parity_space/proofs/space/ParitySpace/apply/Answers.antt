use Rattle.std.proofs.Common.{◌≡◌, ℕ, ◌*◌, ◌<◌, length, subst, sym, ap, ap₂, ◌∙◌, arith}
use Rattle.std.proofs.lemmas.List.{get_or_default}
use Rattle.group_message.specs.declared.update.Body.{Body}
use Rattle.erasure_code.specs.Code.{coefficient}
use Rattle.erasure_code.specs.Spaces.{added_at}
use Rattle.field_byte.specs.Vectors.{scale}
use Rattle.page_map.specs.Pages.{numbers_in}
use Rattle.page_map.specs.Spaces.{page_bytes}
use Rattle.page_map.proofs.Spaces.{all_found, bytes_added}
use Rattle.parity_space.specs.Space.{CanBeAdded, CodedSpace}
use Rattle.parity_space.proofs.space.ParitySpace.apply.Goals as goal

pub add-requires-clause-there : goal.add-requires-clause-there
add-requires-clause-there c =
    let asked = subst (λ (s : CodedSpace). CanBeAdded s.shape s.made c.args.update.now.body) (sym c.self.view_is) c.requires.ready in
    let ready = subst (λ (b : Body). CanBeAdded c.self.inside.shape (numbers_in c.self.inside.pages) b) c.in-Put.is asked in
    let long : length c.bytes.result.now ≡ c.in-Put.run'.len = ap length c.bytes.ensures ∙ ready.1 in
    all_found c.self.inside.pages c.self.inside.shape.block c.in-Put.run'.at (length c.bytes.result.now)
    c.self.invariant.2 (λ a from below. ready.2 a from (omega (arith, long)))

pub returns-in-Put-clause-bytes : goal.returns-in-Put-clause-bytes
returns-in-Put-clause-bytes c =
    let asked = subst (λ (s : CodedSpace). CanBeAdded s.shape s.made c.args.update.now.body) (sym c.self.view_is) c.requires.ready in
    let ready = subst (λ (b : Body). CanBeAdded c.self.inside.shape (numbers_in c.self.inside.pages) b) c.in-Put.is asked in
    let pages = c.self.inside.pages in
    let area : pages.blocks * pages.block ≡ c.self.inside.shape.blocks * c.self.inside.shape.block = ap₂ (λ x y. x * y) c.self.invariant.1 c.self.invariant.2 in
    let long : length c.bytes.result.now ≡ c.in-Put.run'.len = ap length c.bytes.ensures ∙ ready.1 in
    let partition : c.args.d.0 < c.self.inside.shape.k = subst (λ (s : CodedSpace). c.args.d.0 < s.shape.k) (sym c.self.view_is) c.requires.partition in
    let coef = c.index-coef.ensures
    ∙ (get_or_default c.self.inside.coefs.items c.args.d.0 c.index-coef.result.now 0
    (omega (arith, partition, c.self.invariant.0.all)) ∙ c.self.invariant.0.each c.args.d.0 partition) in
    let added = bytes_added pages c.add.new.self c.in-Put.run'.at c.index-coef.result.now c.bytes.result.now
    (omega (arith, ready.0, area, long)) c.add.ensures in
    rw (← c.self.view_is, c.in-Put.is)
    (subst (λ sum. page_bytes c.add.new.self ≡ added_at c.in-Put.run'.at sum (page_bytes pages))
    (ap₂ scale coef c.bytes.ensures) added)
