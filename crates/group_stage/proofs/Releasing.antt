-- A node is given back, and its word released.
use Rattle.std.proofs.Common.{ℕ, zero, suc, ◌≡◌, ◌≢◌, ◌<◌, ◌+◌, ◌-◌, ⊎_elim, List, [], ◌∷◌, ◌++◌, map, set, refl, sym}
use Rattle.std.proofs.Common.{ap, subst, ◌∙◌, arith, length-set, eq-eqb, ne_eqb}
use Rattle.std.specs.Prelude as std
use Rattle.std.proofs.lemmas.Bool.{cases_eq}
use mathlib.Core.Option.{none, some}
use lib.ListN.{get_elem?}
use Rattle.atomic_table.specs.Table.{Allows, gives, put_back, rest, step}
use Rattle.atomic_table.proofs.Lists.{set_else, set_here}
use Rattle.group_types.specs.Dimensions.{processes_of}
use Rattle.group_run.specs.Locality.{occurrences}
use Rattle.group_node.specs.Standing.{NodeStanding}
use Rattle.group_stage.specs.Conditions.{HasLast}
use Rattle.group_types.specs.Each.{Each}
use Rattle.group_stage.specs.Counts.{flag}
use Rattle.group_stage.specs.Kept.{KeepsPlan}
use Rattle.group_stage.specs.Places.{slot_of, word_in, word_of}
use Rattle.group_stage.specs.Schedules.{standing_at}
use Rattle.group_stage.specs.Steps.{Releases, Sat}
use Rattle.group_stage.specs.Views.{cleared_of, held_rest, holding, met_of, released, tally}
use Rattle.group_stage.specs.declared.view.Plan.{Plan}
use Rattle.group_stage.specs.declared.view.View.{View}
use Rattle.group_stage.proofs.Sums.{term_le, times-else, times-here}
use Rattle.group_stage.proofs.Moves.{Homes, Keeps, St, changed, stage}
use Rattle.group_stage.proofs.Taking.{Goes, drawing-else, history-else, place-is, word-else, word-here}

pub tally-append : (p : ℕ) (xs ys : List (ℕ × ℕ)) → tally p (xs ++ ys) ≡ tally p xs + tally p ys
tally-append p [] ys = omega arith
tally-append p (x ∷ xs) ys = let more = tally-append p xs ys in omega (arith, more)

tally-here : (p n : ℕ) → tally p ((p, n) ∷ []) ≡ n
tally-here p n = ap (λ (b : std.Bool). std.cond b n 0 + 0) (eq-eqb p p refl) ∙ omega arith

pub tally-else : (q p n : ℕ) → p ≢ q → tally q ((p, n) ∷ []) ≡ 0
tally-else q p n other = ap (λ (b : std.Bool). std.cond b n 0 + 0) (ne_eqb p q other)

each-rest : (P : ℕ × NodeStanding → Type 0) (hs : List (ℕ × NodeStanding)) → Each P hs → Each P (held_rest hs)
each-rest P [] all = tt
each-rest P (h ∷ hs) all = all.1

flag-up : (n : ℕ) → 0 < flag n → 0 < n
flag-up zero low = low
flag-up (suc n) low = omega arith

flag-one : (n : ℕ) → 0 < n → flag n ≡ 1
flag-one zero low = absurd (omega (arith, low))
flag-one (suc n) low = refl

module _ (plan : Plan) (st : St) (o : KeepsPlan plan st) (id : ℕ) (v : View) (me : get_elem? st.views id ≡ some v) (p : ℕ)
    (y : NodeStanding) (part : v.parts ≡ 1) (within : p < processes_of plan.shape)
    (last : v.held ≡ (p, y) ∷ held_rest v.held) where
  others : List ℕ
  others = map (λ h. h.0) (held_rest v.held)

  holding-is : (q : ℕ) → holding q v ≡ occurrences q (p ∷ map (λ h. h.0) (held_rest v.held))
  holding-is q = ap (λ (hs : List (ℕ × NodeStanding)). occurrences q (map (λ h. h.0) hs)) last

  above : 0 < word_in st.words p
  above =
      let mine = term_le (holding p) st.views id v me in
      let one = times-here p (map (λ h. h.0) (held_rest v.held)) in
      flag-up (word_in st.words p) (omega (arith, o.taken p within, mine, holding-is p, one))

  node-is : y ≡ standing_at plan.shape o.schedule p
  node-is = (subst (Each (λ h. h.1 ≡ standing_at plan.shape o.schedule h.0)) last (o.each id v me).held).0

  pub released-kept : Keeps plan st o (stage (set st.words (word_of p) 0) (set st.homes (slot_of p) (some (std.Some y)))
      (set st.views id (released v p (word_in st.words p))))
  released-kept =
      let fits = o.each id v me in
      let here = word-here plan st.words o.wide p 0 within in
      let else = word-else plan st.words o.wide p 0 within in
      let high = above in
      let up = flag-one (word_in st.words p) high in
      let w : ℕ = word_in st.words p in
      changed plan st o id v v.call v.calls v.due (held_rest v.held) v.met (v.cleared ++ (p, word_in st.words p - 1)
      ∷ []) (set st.words (word_of p) 0) (set st.homes (slot_of p) (some (std.Some y))) me
      (length-set st.words (word_of p) 0) (length-set st.homes (slot_of p) (some (std.Some y)))
      (history-else plan st.words o.wide p 0 within) (drawing-else plan st.words o.wide p 0 within)
      (λ q low. ⊎_elim
      (λ (e : q ≡ p). subst (λ (x : ℕ). occurrences x (map (λ h. h.0) (held_rest v.held)) + flag (word_in st.words x)
      ≡ holding x v + flag (word_in (set st.words (word_of p) 0) x)) (sym e)
      (let a = times-here p (map (λ h. h.0) (held_rest v.held)) in let b = holding-is p in let c = ap flag here in omega (arith, a, b, c, up)))
      (λ (ne : q ≢ p). let a = times-else q p (map (λ h. h.0) (held_rest v.held)) (λ e. ne (sym e)) in
      let b = holding-is q in let c = ap flag (else q ne) in omega (arith, a, b, c))
      (cases_eq q p))
      (λ q low. let more = tally-append q v.cleared ((p, word_in st.words p - 1) ∷ []) in ⊎_elim
      (λ (e : q ≡ p). subst (λ (x : ℕ). met_of x v + flag (word_in (set st.words (word_of p) 0) x) + cleared_of x
      v + word_in st.words x ≡ met_of x v + flag (word_in st.words x) + tally x
      (v.cleared ++ (p, word_in st.words p - 1) ∷ []) + word_in (set st.words (word_of p) 0) x) (sym e)
      (let a = tally-append p v.cleared ((p, word_in st.words p - 1) ∷ []) in
      let b = tally-here p (word_in st.words p - 1) in let c = ap flag here in
      omega (arith, a, b, c, up, here, high)))
      (λ (ne : q ≢ p). let b = tally-else q p (word_in st.words p - 1) (λ e. ne (sym e)) in let c = ap flag (else q ne) in omega (arith, more, b, c, else q ne))
      (cases_eq q p))
      (λ q low zero_now. ⊎_elim
      (λ (e : q ≡ p). subst (λ (x : ℕ). get_elem? (set st.homes (slot_of p) (some (std.Some y))) (slot_of x)
      ≡ some (some (std.Some (standing_at plan.shape o.schedule x)))) (sym e)
      (set_here st.homes (slot_of p) (some (std.Some y)) (omega (arith, o.long, within)) ∙ ap (λ (z : NodeStanding). some (some (std.Some z))) node-is))
      (λ (ne : q ≢ p). set_else st.homes (slot_of p) (slot_of q) (some (std.Some y)) (λ e. ne (omega (arith, e))) ∙ o.home q low (sym (else q ne) ∙ zero_now))
      (cases_eq q p))
      (record {
        shape = fits.shape;
        inside = each-rest _ v.held fits.inside;
        held = each-rest _ v.held fits.held;
        named = each-rest _ v.held fits.named;
        made = fits.made;
        few = fits.few;
        calls = fits.calls;
        numbers = fits.numbers;
        no_parts = λ z. absurd (omega (arith, z, part));
        seen = fits.seen;
        own = fits.own;
        pen = fits.pen;
      })

pub releases : (plan : Plan) (slots id : ℕ) (m : Sat) (p i : ℕ) (y : NodeStanding) → i ≡ word_of p
    → HasLast plan m p y (std.Some y) → Allows (KeepsPlan plan) slots id m i (λ _. 0) (Releases (step slots i 0 0 none) m)
releases plan slots id m p i y here last st o wide me low =
    let v : View = m.0 in
    let kept = released-kept plan st o id v me p y last.part last.within last.held in
    let homes : set st.homes (slot_of p) (some (std.Some y)) ≡ put_back st.homes m.1 = ap (put_back st.homes) (sym last.slot) in
    subst (λ (j : ℕ). Goes plan st j id m (Releases (step slots j 0 0 none) m) 0) (sym here) (
      released v p (word_in st.words p),
      gives,
      tt,
      subst (λ (hs : Homes). KeepsPlan plan (stage (set st.words (word_of p) 0) hs (set st.views id (released v p (word_in st.words p))))) homes kept.0,
      ap (λ (q : ℕ). (released v q (word_in st.words p), rest m.1)) (sym (place-is p)),
    )
