-- Pages, where several steps make some.
use Rattle.std.proofs.Common.{ℕ, ◌≡◌, ◌<◌, List, Option, length, slice_index_or, drop, sym, subst}
use Rattle.std.proofs.lemmas.List.Elements.{All-drop}
use Rattle.group_types.specs.declared.run.Run.{Run}
use Rattle.group_message.specs.declared.update.Body.{Body}
use Rattle.group_message.specs.declared.update.Body.TheVariants.{Put}
use Rattle.group_message.specs.declared.update.Update.{Update}
use Rattle.page_map.specs.Spaces.{MakesOnly}
use Rattle.head_service.specs.Paging.{AllMiss, MakesNoneOf, Misses}

-- no page is made where none was
pub makes-none : (IsMissed : ℕ → Type 0) (made : List ℕ) → MakesNoneOf IsMissed made made
makes-none IsMissed made = record { kept = λ b is. is; others = λ b missed is. is }

-- what misses all updates misses the last ones
pub last-ones : (block n : ℕ) (us : List Update) (old new : List ℕ) → MakesNoneOf (AllMiss block (drop n us)) old new → MakesNoneOf (AllMiss block us) old new
last-ones block n us old new made = record {
  kept = made.kept;
  others = λ b missed. made.others b (All-drop (λ (u : Update). Misses block u.body b) n us missed);
}

-- pages are made for one update more of a list
pub one-more : (block i : ℕ) (us : List Update) (u : Update) (old now new : List ℕ) → i < length us → u ≡ slice_index_or us i u
    → MakesNoneOf (AllMiss block us) old now → MakesNoneOf (Misses block u.body) now new → MakesNoneOf (AllMiss block us) old new
one-more block i us u old now new within is before next = record {
  kept = λ b there. next.kept b (before.kept b there);
  others = λ b missed there. before.others b missed (next.others b (subst (λ (v : Update). Misses block v.body b) (sym is) (missed i u within)) there);
}

-- pages are made for the run of a value
pub put-pages : (block : ℕ) (body : Body) (flags : ℕ) (until : Option ℕ) (run : Run) (delta old new : List ℕ) → body ≡ Put flags until run delta
    → MakesOnly block run old new → MakesNoneOf (Misses block body) old new
put-pages block body flags until run delta old new is made = record {
  kept = made.kept;
  others = λ b missed. made.others b (subst (λ (x : Body). Misses block x b) is missed);
}
