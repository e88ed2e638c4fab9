-- Moves that led to the eras, and one more.
use Rattle.std.proofs.Common.{◌≡◌, List, [], ◌∷◌, ◌++◌, refl, sym, ap, subst, ◌∙◌}
use Rattle.group_types.specs.Shape.{IsShape}
use Rattle.group_calls.specs.declared.event.Event.{Event}
use Rattle.group_run.specs.World.{World, opening}
use Rattle.group_eras.specs.Eras.{Eras, MayMake, era_step, first_era}
use Rattle.group_eras.specs.Promise.{EraMove, IsLed, MayAllBeDone, MayBeDone, all_done, done}
use Rattle.group_eras.specs.Promise.EraMove.{Makes}

done-append : (e : Eras) (ds es : List EraMove) → all_done e (ds ++ es) ≡ all_done (all_done e ds) es
done-append e [] es = refl
done-append e (d ∷ ds) es = done-append (done e d) ds es

may-append : (e : Eras) (ds es : List EraMove) → MayAllBeDone e ds → MayAllBeDone (all_done e ds) es → MayAllBeDone e (ds ++ es)
may-append e [] es may more = more
may-append e (d ∷ ds) es (here, rest) more = (here, may-append (done e d) ds es rest more)

pub led-first : (w : World) (e : Eras) → w ≡ opening w.shape → IsShape w.shape → e ≡ first_era w → IsLed e
led-first w e start limits is = record { s = w.shape; limits = limits; moves = []; may = tt; is = is ∙ ap first_era start }

pub led-more : (e f : Eras) (d : EraMove) → IsLed e → MayBeDone e d → f ≡ done e d → IsLed f
led-more e f d led may is = record {
  s = led.s;
  limits = led.limits;
  moves = led.moves ++ d ∷ [];
  may = may-append (first_era (opening led.s)) led.moves (d ∷ []) led.may (subst (λ (x : Eras). MayBeDone x d) led.is may, tt);
  is = is ∙ ap (λ (x : Eras). done x d) led.is ∙ sym (done-append (first_era (opening led.s)) led.moves (d ∷ []));
}

pub led-made : (e f : Eras) (event : Event) → IsLed e → MayMake e event → f ≡ (era_step e event).eras → IsLed f
led-made e f event led may is = led-more e f (Makes event) led may is
