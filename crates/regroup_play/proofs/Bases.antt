-- There is a base for each partition.
use Rattle.std.proofs.Common.{ℕ, suc, ◌≡◌, ◌<◌, ◌+◌, List, [], ◌∷◌, length, take, refl, sym, ap, subst, ◌∙◌, arith}
use Rattle.std.specs.Prelude.{All}
use Rattle.std.proofs.lemmas.List.{length-replicate}
use Rattle.std.proofs.lemmas.List.Elements.{All-cons, All-nil}
use Rattle.std.proofs.lemmas.List.FromFn.{length-map-range_with_len}
use Rattle.group_types.specs.Dimensions.{Dimensions}
use Rattle.group_types.specs.Lists.{at}
use Rattle.group_calls.specs.declared.event.Event.{Event}
use Rattle.group_run.specs.Meaning.{count_logged}
use Rattle.group_run.specs.World.{opening}
use Rattle.group_eras.specs.Carry.{carried, read_era, reading, setting}
use Rattle.group_eras.specs.Eras.{Eras, era_step, eras_after, first_era, next_era}
use Rattle.group_eras.specs.Promise.{Begins, Carries, EraMove, IsLed, Makes, MayAllBeDone, MayBeDone, all_done, done}

abbrev pub IsSized : Eras → Type 0
IsSized e = length e.bases ≡ e.world.shape.k

after-sized : (e : Eras) (es : List Event) → IsSized e → IsSized (eras_after e es)
after-sized e [] sized = sized
after-sized e (x ∷ xs) sized = after-sized (era_step e x).eras xs sized

after-shape : (e : Eras) (es : List Event) → (eras_after e es).world.shape ≡ e.world.shape
after-shape e [] = refl
after-shape e (x ∷ xs) = after-shape (era_step e x).eras xs

next-sized : (e : Eras) (s : Dimensions) → s.k ≡ e.world.shape.k → IsSized (next_era e s)
next-sized e s same = length-map-range_with_len (λ d. at 0 e.bases d + count_logged e.world d) 0 e.world.shape.k ∙ sym same

carried-sized : (e : Eras) (s : Dimensions) → s.k ≡ e.world.shape.k → IsSized (carried e s)
carried-sized e s same =
    after-sized (next_era (read_era e) s) (setting (opening s) (reading e.world).parcels)
    (next-sized (read_era e) s (same ∙ sym (ap (λ (t : Dimensions). t.k) (after-shape e (reading e.world).events))))

done-sized : (e : Eras) (move : EraMove) → MayBeDone e move → IsSized e → IsSized (done e move)
done-sized e (Makes x) may sized = sized
done-sized e (Carries s) may sized = carried-sized e s may.0.partitions
done-sized e (Begins many) may sized = after-sized e (take many (reading e.world).events) sized

all-sized : (e : Eras) (moves : List EraMove) → MayAllBeDone e moves → IsSized e → IsSized (all_done e moves)
all-sized e [] may sized = sized
all-sized e (move ∷ moves) may sized = all-sized (done e move) moves may.1 (done-sized e move may.0 sized)

pub led-sized : (e : Eras) → IsLed e → IsSized e
led-sized e led = subst IsSized (sym led.is) (all-sized (first_era (opening led.s)) led.moves led.may (length-replicate led.s.k 0))

low-all : (most : ℕ) (bases : List ℕ) → ((d : ℕ) → d < length bases → at 0 bases d < most) → All (λ base. base < most) bases
low-all most [] each = All-nil (λ base. base < most)
low-all most (b ∷ bs) each = All-cons (λ base. base < most) b bs (each 0 (omega arith)) (low-all most bs (λ d there. each (suc d) (omega (arith, there))))

-- each is low, where that of each partition is
pub all-low : (e : Eras) (most : ℕ) → IsLed e → ((d : ℕ) → d < e.world.shape.k → at 0 e.bases d < most) → All (λ base. base < most) e.bases
all-low e most led low = low-all most e.bases (λ d there. low d (subst (λ (n : ℕ). d < n) (led-sized e led) there))
