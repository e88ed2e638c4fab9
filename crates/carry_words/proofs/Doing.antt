-- Where all is done, what was listed is carried, or has ended.
use Rattle.std.proofs.Common.{ℕ, zero, suc, ◌≡◌, ◌≢◌, inl, inr, ◌⊎◌, Bool, true, false, ◌&&◌, ◌==◌, nat_eq, List, []}
use Rattle.std.proofs.Common.{◌∷◌, ◌++◌, Option, Some, None, if◌then◌else◌, refl, sym, ap, subst, ◌∙◌, eqb-true, arith}
use Rattle.std.proofs.lemmas.Bool.{eqb-false}
use Rattle.std.proofs.lemmas.Slice.Eq.{bytes_eq-Decides}
use Rattle.std.proofs.lemmas.List.{get_or-set_same}
use Rattle.std.specs.Option.{is_none}
use Rattle.std.specs.Prelude.{slice_set, min, ◌+◌, ◌-◌, ◌^◌}
use Rattle.std.specs.Str.{bytes_eq}
use Rattle.group_types.specs.Each.{Each}
use Rattle.carry_words.specs.Carrying.{Carrying, are_free, failed, heard_at, is_done, is_free_place, listed_at, met, place_at, settled, with_place}
use Rattle.carry_words.specs.Courses.{by_stage, course_of, goes, has_ended, most_behind}
use Rattle.carry_words.specs.Done.{DoneMeansCarried, Event, Ends, Hears, IsCarried, IsGone, LeavesPlace, Lists, Nothing, Then, after, step}
use Rattle.carry_words.specs.declared.course.CarryFault.{CarryFault}
use Rattle.carry_words.specs.declared.course.CarryFault.TheVariants as fault
use Rattle.carry_words.specs.declared.course.Course.{Course}
use Rattle.carry_words.specs.declared.course.Course.TheVariants.{Goes, Carried, Gone, Fails}
use Rattle.carry_words.specs.declared.heard.Heard.{Heard}
use Rattle.carry_words.specs.declared.heard.Heard.TheVariants as heard
use Rattle.carry_words.specs.declared.listed.Listed.{Listed}
use Rattle.carry_words.specs.declared.stage.Stage.{Stage}
use Rattle.carry_words.specs.declared.stage.Stage.TheVariants.{Unread, Read, Stored}
use Rattle.carry_words.specs.declared.transfer.Transfer.{Transfer}
use Rattle.carry_words.proofs.Written.{at-other, at-rewritten, at-written, both, free-within, not-free, taken-not-free}

-- a fault stays

settled-failed : (at : ℕ) (course : Course) (c : Carrying) → is_none c.fault ≡ false → is_none (settled at course c).fault ≡ false
settled-failed at (Goes t) c is = is
settled-failed at Carried c is = is
settled-failed at Gone c is = is
settled-failed at (Fails f) c is = refl

met-failed : (now at : ℕ) (h : Heard) (place : Option Transfer) (c : Carrying) → is_none c.fault ≡ false → is_none (met now at h place c).fault ≡ false
met-failed now at h None c is = refl
met-failed now at h (Some t) c is = settled-failed at (course_of now t h) c is

listed-failed : (at : ℕ) (item : Listed) (c : Carrying) (free : Bool) → is_free_place at c.places ≡ free
    → is_none c.fault ≡ false → is_none (listed_at at item c).fault ≡ false
listed-failed at item c true free is =
    ap (λ (b : Bool). is_none (if b then with_place at (Some (record { item = item; stage = Unread })) c else failed
    fault.Misplaced c).fault) free ∙ is
listed-failed at item c false free is =
    ap (λ (b : Bool). is_none (if b then with_place at (Some (record { item = item; stage = Unread })) c else failed
    fault.Misplaced c).fault) free

step-failed : (c : Carrying) (e : Event) → is_none c.fault ≡ false → is_none (step c e).fault ≡ false
step-failed c (Lists at item) is = listed-failed at item c (is_free_place at c.places) refl is
step-failed c Ends is = is
step-failed c (Hears now at h) is = met-failed now at h (place_at at c.places) (with_place at None c) is

and-false : (a b c : Bool) → b ≡ false → a && (b && c) ≡ true → ⊥
and-false true true c is done = absurd (cc is)
and-false true false c is done = absurd (cc done)
and-false false b c is done = absurd (cc done)

never-done : (es : List Event) (c : Carrying) → is_none c.fault ≡ false → is_done (after c es) ≡ true → ⊥
never-done [] c is done = and-false (c.lists == 0) (is_none c.fault) (are_free c.places) is done
never-done (e ∷ es) c is done = never-done es (step c e) (step-failed c e is) done

-- what a place owes, by how far its item has come

abbrev Owes : ℕ → Listed → Stage → List Event → Type 0
Owes at item Unread es = IsCarried at es ⊎ IsGone at item es
Owes at item (Read value) es = Then at heard.Stored (λ _. Then at (heard.Found value) Nothing) es ⊎ IsGone at item es
Owes at item (Stored value) es = Then at (heard.Found value) Nothing es ⊎ IsGone at item es

then-more : (at : ℕ) (h : Heard) (Rest : ℕ → List Event → Type 0) (e : Event) (es : List Event) → LeavesPlace at e → Then at h Rest es → Then at h Rest (e ∷ es)
then-more at h Rest e es leaves told = record {
  before = e ∷ told.before;
  later = told.later;
  now = told.now;
  is = ap (λ (l : List Event). e ∷ l) told.is;
  own = (leaves, told.own);
  rest = told.rest;
}

then-first : (at now : ℕ) (h : Heard) (Rest : ℕ → List Event → Type 0) (es : List Event) → Rest now es → Then at h Rest (Hears now at h ∷ es)
then-first at now h Rest es rest = record { before = []; later = es; now = now; is = refl; own = tt; rest = rest }

owes-more : (at : ℕ) (item : Listed) (stage : Stage) (e : Event) (es : List Event) → LeavesPlace at e → Owes at item stage es → Owes at item stage (e ∷ es)
owes-more at item Unread e es leaves (inl carried) =
    inl (record { value = carried.value; read = then-more at (heard.Found carried.value) _ e es leaves carried.read })
owes-more at item Unread e es leaves (inr gone) = inr (then-more at heard.Missing _ e es leaves gone)
owes-more at item (Read value) e es leaves (inl told) = inl (then-more at heard.Stored _ e es leaves told)
owes-more at item (Read value) e es leaves (inr gone) = inr (then-more at heard.Missing _ e es leaves gone)
owes-more at item (Stored value) e es leaves (inl told) = inl (then-more at (heard.Found value) _ e es leaves told)
owes-more at item (Stored value) e es leaves (inr gone) = inr (then-more at heard.Missing _ e es leaves gone)

ends-leaves : (at : ℕ) → LeavesPlace at Ends
ends-leaves at item is = absurd (cc is)

hears-leaves : (at now other : ℕ) (h : Heard) → LeavesPlace at (Hears now other h)
hears-leaves at now other h item is = absurd (cc is)

lists-leaves : (at other : ℕ) (i : Listed) → at ≢ other → LeavesPlace at (Lists other i)
lists-leaves at other i apart item is = apart (sym (cc is))

-- an item at another place stays

settled-other : (at other : ℕ) (course : Course) (c : Carrying) → at ≢ other → place_at at (settled other course c).places ≡ place_at at c.places
settled-other at other (Goes t) c apart = at-other at other c.places (Some t) apart
settled-other at other Carried c apart = refl
settled-other at other Gone c apart = refl
settled-other at other (Fails f) c apart = refl

met-other : (now at other : ℕ) (h : Heard) (place : Option Transfer) (c : Carrying) → at ≢ other
    → place_at at (met now other h place c).places ≡ place_at at c.places
met-other now at other h None c apart = refl
met-other now at other h (Some t) c apart = settled-other at other (course_of now t h) c apart

heard-other : (now at other : ℕ) (h : Heard) (c : Carrying) → at ≢ other → place_at at (heard_at now other h c).places ≡ place_at at c.places
heard-other now at other h c apart =
    met-other now at other h (place_at other c.places) (with_place other None c) apart ∙ at-other at other c.places None apart

-- what is heard of an item at its place

heard-here : (now at : ℕ) (h : Heard) (t : Transfer) (c : Carrying) → place_at at c.places ≡ Some t
    → heard_at now at h c ≡ settled at (course_of now t h) (with_place at None c)
heard-here now at h t c is = ap (λ (place : Option Transfer). met now at h place (with_place at None c)) is

-- what follows from a place on
abbrev Follows : List Event → Type 0
Follows es = (c : Carrying) (at : ℕ) (item : Listed) (stage : Stage)
    → place_at at c.places ≡ Some (record { item = item; stage = stage }) → is_done (after c es) ≡ true
    → Owes at item stage es

goes-on : (es : List Event) → Follows es → (c : Carrying) (at : ℕ) (t : Transfer) (item : Listed) (stage : Stage) → place_at at c.places ≡ Some t
    → is_done (after (settled at (goes item stage) (with_place at None c)) es) ≡ true → Owes at item stage es
goes-on es follows c at t item stage is done =
    follows (settled at (goes item stage) (with_place at None c)) at item stage
    (at-rewritten at c.places t None (Some (record { item = item; stage = stage })) is) done

fails-not : (es : List Event) (c : Carrying) (at : ℕ) (f : CarryFault) → is_done (after (settled at (Fails f) c) es) ≡ true → ⊥
fails-not es c at f done = never-done es (failed f c) refl done

-- a miss: the item has ended, or is asked for again
misses : (es : List Event) → Follows es → (c : Carrying) (now at : ℕ) (item : Listed) (stage : Stage)
    → place_at at c.places ≡ Some (record { item = item; stage = stage })
    → (ended soon : Bool) → has_ended now item.until ≡ ended
    → is_done (after (settled at (if ended then Gone else (if soon then goes item stage else Fails fault.Lost)) (with_place at None c)) es) ≡ true
    → Owes at item stage (Hears now at heard.Missing ∷ es)
misses es follows c now at item stage is true soon ended done = gone stage where
  gone : (s : Stage) → Owes at item s (Hears now at heard.Missing ∷ es)
  gone Unread = inr (then-first at now heard.Missing _ es ended)
  gone (Read value) = inr (then-first at now heard.Missing _ es ended)
  gone (Stored value) = inr (then-first at now heard.Missing _ es ended)
misses es follows c now at item stage is false true ended done =
    owes-more at item stage (Hears now at heard.Missing) es (hears-leaves at now at heard.Missing)
    (goes-on es follows c at (record { item = item; stage = stage }) item stage is done)
misses es follows c now at item stage is false false ended done = absurd (fails-not es (with_place at None c) at fault.Lost done)

-- what is read back
reads-back : (es : List Event) (c : Carrying) (now at : ℕ) (item : Listed) (value back : List ℕ) (same : Bool) → bytes_eq back value ≡ same
    → is_done (after (settled at (if same then Carried else Fails fault.Differs) (with_place at None c)) es) ≡ true
    → Owes at item (Stored value) (Hears now at (heard.Found back) ∷ es)
reads-back es c now at item value back true same done =
    inl (subst (λ (v : List ℕ). Then at (heard.Found v) Nothing (Hears now at (heard.Found back) ∷ es))
    ((bytes_eq-Decides back value).0 same) (then-first at now (heard.Found back) Nothing es tt))
reads-back es c now at item value back false same done = absurd (fails-not es (with_place at None c) at fault.Differs done)

again : (es : List Event) → Follows es → (c : Carrying) (now at : ℕ) (h : Heard) (item : Listed) (stage : Stage)
    → place_at at c.places ≡ Some (record { item = item; stage = stage })
    → is_done (after (settled at (goes item stage) (with_place at None c)) es) ≡ true → Owes at item stage (Hears now at h ∷ es)
again es follows c now at h item stage is done =
    owes-more at item stage (Hears now at h) es (hears-leaves at now at h) (goes-on es follows c at (record { item = item; stage = stage }) item stage is done)

hears : (es : List Event) → Follows es → (c : Carrying) (now at : ℕ) (item : Listed) (stage : Stage) (h : Heard)
    → place_at at c.places ≡ Some (record { item = item; stage = stage })
    → is_done (after (settled at (by_stage now item stage h) (with_place at None c)) es) ≡ true → Owes at item stage (Hears now at h ∷ es)
hears es follows c now at item Unread (heard.Found value) is done =
    by (goes-on es follows c at (record { item = item; stage = Unread }) item (Read value) is done) where
      by : Owes at item (Read value) es → Owes at item Unread (Hears now at (heard.Found value) ∷ es)
      by (inl told) = inl (record { value = value; read = then-first at now (heard.Found value) _ es told })
      by (inr gone) = inr (then-more at heard.Missing _ (Hears now at (heard.Found value)) es (hears-leaves at now at (heard.Found value)) gone)
hears es follows c now at item Unread heard.Missing is done = misses es follows c now at item Unread is
    (has_ended now item.until) (has_ended (min (now + most_behind) (2 ^ 64 - 1)) item.until) refl done
hears es follows c now at item Unread heard.Other is done = absurd (fails-not es (with_place at None c) at fault.Changed done)
hears es follows c now at item Unread heard.Stored is done = again es follows c now at heard.Stored item Unread is done
hears es follows c now at item Unread heard.Refused is done = again es follows c now at heard.Refused item Unread is done
hears es follows c now at item (Read value) heard.Stored is done =
    by (goes-on es follows c at (record { item = item; stage = Read value }) item (Stored value) is done) where
      by : Owes at item (Stored value) es → Owes at item (Read value) (Hears now at heard.Stored ∷ es)
      by (inl told) = inl (then-first at now heard.Stored _ es told)
      by (inr gone) = inr (then-more at heard.Missing _ (Hears now at heard.Stored) es (hears-leaves at now at heard.Stored) gone)
hears es follows c now at item (Read value) (heard.Found v) is done = again es follows c now at (heard.Found v) item (Read value) is done
hears es follows c now at item (Read value) heard.Missing is done = again es follows c now at heard.Missing item (Read value) is done
hears es follows c now at item (Read value) heard.Other is done = again es follows c now at heard.Other item (Read value) is done
hears es follows c now at item (Read value) heard.Refused is done = again es follows c now at heard.Refused item (Read value) is done
hears es follows c now at item (Stored value) (heard.Found back) is done = reads-back es c now at item value back (bytes_eq back value) refl done
hears es follows c now at item (Stored value) heard.Missing is done = misses es follows c now at item (Stored value) is
    (has_ended now item.until) (has_ended (min (now + most_behind) (2 ^ 64 - 1)) item.until) refl done
hears es follows c now at item (Stored value) heard.Other is done = absurd (fails-not es (with_place at None c) at fault.Differs done)
hears es follows c now at item (Stored value) heard.Stored is done = again es follows c now at heard.Stored item (Stored value) is done
hears es follows c now at item (Stored value) heard.Refused is done = again es follows c now at heard.Refused item (Stored value) is done

-- all events

lists : (es : List Event) → Follows es → (c : Carrying) (at other : ℕ) (item i : Listed) (stage : Stage)
    → place_at at c.places ≡ Some (record { item = item; stage = stage })
    → (free : Bool) → is_free_place other c.places ≡ free → is_done (after (listed_at other i c) es) ≡ true → Owes at item stage (Lists other i ∷ es)
lists es follows c at other item i stage is true free done =
    owes-more at item stage (Lists other i) es (lists-leaves at other i apart)
    (follows (with_place other new c) at item stage (at-other at other c.places new apart ∙ is) listed) where
      new : Option Transfer
      new = Some (record { item = i; stage = Unread })

      apart : at ≢ other
      apart same = taken-not-free at c.places (record { item = item; stage = stage }) is (ap (λ (n : ℕ). is_free_place n c.places) same ∙ free)

      listed : is_done (after (with_place other new c) es) ≡ true
      listed = subst (λ (b : Bool). is_done (after (if b then with_place other new c else failed fault.Misplaced c) es) ≡ true) free done
lists es follows c at other item i stage is false free done =
    absurd (never-done es (failed fault.Misplaced c) refl
    (subst (λ (b : Bool).
    is_done (after (if b then with_place other (Some (record { item = i; stage = Unread })) c else failed
    fault.Misplaced c) es) ≡ true) free done))

heard-any : (es : List Event) → Follows es → (c : Carrying) (now at other : ℕ) (item : Listed) (stage : Stage)
    (h : Heard) → place_at at c.places ≡ Some (record { item = item; stage = stage })
    → (same : Bool) → nat_eq at other ≡ same → is_done (after (heard_at now other h c) es) ≡ true → Owes at item stage (Hears now other h ∷ es)
heard-any es follows c now at other item stage h is true same done = subst (λ (n : ℕ). Owes at item stage (Hears now n h ∷ es)) here
    (hears es follows c now at item stage h is
    (subst (λ (d : Carrying). is_done (after d es) ≡ true)
    (heard-here now at h (record { item = item; stage = stage }) c is)
    (subst (λ (n : ℕ). is_done (after (heard_at now n h c) es) ≡ true) (sym here) done))) where
      here : at ≡ other
      here = eqb-true at other same
heard-any es follows c now at other item stage h is false same done =
    owes-more at item stage (Hears now other h) es (hears-leaves at now other h)
    (follows (heard_at now other h c) at item stage (heard-other now at other h c (eqb-false at other same) ∙ is)
    done)

follows : (es : List Event) (c : Carrying) (at : ℕ) (item : Listed) (stage : Stage)
    → place_at at c.places ≡ Some (record { item = item; stage = stage }) → is_done (after c es) ≡ true
    → Owes at item stage es
follows [] c at item stage is done =
    absurd (not-free at c.places (record { item = item; stage = stage }) is
    (both (is_none c.fault) (are_free c.places) (both (c.lists == 0) (is_none c.fault && are_free c.places) done)))
follows (Lists other i ∷ es) c at item stage is done = lists es (follows es) c at other item i stage is (is_free_place other c.places) refl done
follows (Ends ∷ es) c at item stage is done = owes-more at item stage Ends es (ends-leaves at) (follows es (step c Ends) at item stage is done)
follows (Hears now other h ∷ es) c at item stage is done = heard-any es (follows es) c now at other item stage h is (nat_eq at other) refl done

-- an item that was just listed

at-listed : (at : ℕ) (c : Carrying) (place : Option Transfer) → is_free_place at c.places ≡ true → place_at at (slice_set c.places at place) ≡ place
at-listed at c place free = get_or-set_same c.places at place None (free-within at c.places free)

just-listed : (es : List Event) (c : Carrying) (at : ℕ) (item : Listed) (free : Bool) → is_free_place at c.places ≡ free
    → is_done (after (listed_at at item c) es) ≡ true → IsCarried at es ⊎ IsGone at item es
just-listed es c at item true free done = follows es (with_place at new c) at item Unread (at-listed at c new free) listed where
  new : Option Transfer
  new = Some (record { item = item; stage = Unread })

  listed : is_done (after (with_place at new c) es) ≡ true
  listed = subst (λ (b : Bool). is_done (after (if b then with_place at new c else failed fault.Misplaced c) es) ≡ true) free done
just-listed es c at item false free done =
    absurd (never-done es (failed fault.Misplaced c) refl
    (subst (λ (b : Bool).
    is_done (after (if b then with_place at (Some (record { item = item; stage = Unread })) c else failed
    fault.Misplaced c) es) ≡ true) free done))

after-append : (before later : List Event) (c : Carrying) → after c (before ++ later) ≡ after (after c before) later
after-append [] later c = refl
after-append (e ∷ es) later c = after-append es later (step c e)

pub done_means_carried : DoneMeansCarried
done_means_carried c before later at item done = just-listed later now at item (is_free_place at now.places) refl
    (sym (ap (λ (d : Carrying). is_done d) (after-append before (Lists at item ∷ later) c)) ∙ done) where
      now : Carrying
      now = after c before
