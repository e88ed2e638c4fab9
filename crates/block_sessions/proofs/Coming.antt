-- What comes in for the open session of a number.
use Rattle.std.proofs.Common.{◌≡◌, ℕ, ◌+◌, ◌<◌, ◌==◌, Bool, not, lt-ltb, List, [], ◌∷◌, length, map, set, get_or}
use Rattle.std.proofs.Common.{slice_get, find, None, Some, option_and_then, position, refl, sym, ap, ap₂, ◌∙◌, subst}
use Rattle.std.proofs.Common.{inl, inr, arith}
use Rattle.std.specs.Prelude.{if◌then◌else◌}
use Rattle.std.specs.List.{position_or_len}
use Rattle.std.proofs.lemmas.Bool.{cases_lt, le-ltb}
use Rattle.std.proofs.lemmas.List.{get_or-map, get_or-set_same, length-map, length-set}
use Rattle.std.proofs.lemmas.List.Folds.{find_at}
use Rattle.std.proofs.lemmas.Option.{slice_get-get_or, slice_get_past}
use Rattle.group_types.specs.Dimensions.{Dimensions}
use Rattle.page_map.specs.Pages.{PageContents}
use Rattle.group_run.specs.Leaders.{gathered}
use Rattle.group_run.specs.Process.{Gathering}
use Rattle.block_sessions.specs.declared.session.OpenSession.{OpenSession}
use Rattle.block_sessions.specs.Leading.{AreParts, Leading, leader_state_of}
use Rattle.block_sessions.specs.Opened.{IsSessionOf, gathering_of}
use Rattle.block_sessions.specs.Rebuilt.{AreRebuilt, rebuilt_in}
use Rattle.block_sessions.proofs.Closing.{gathered_twice, inside, session_set, sessions_with}

abbrev pub has_number : ℕ → OpenSession → Bool
has_number number g = g.number == number

same_place : (number : ℕ) (sessions : List OpenSession) → position_or_len (λ (g : Gathering). g.number == number)
    (map gathering_of sessions) ≡ position_or_len (has_number number) sessions
same_place number [] = refl
same_place number (g ∷ gs) = ap (λ n. if not (g.number == number) then 1 + n else 0) (same_place number gs)

-- the machine's session of a number is the one at the first place that has it
pub found_at : (number : ℕ) (sessions : List OpenSession) → find (λ g. g.number == number) (map gathering_of sessions)
    ≡ option_and_then (slice_get (map gathering_of sessions)) (position (has_number number) sessions)
found_at number sessions =
    let n = position_or_len (has_number number) sessions in
    find_at (λ (g : Gathering). g.number == number) (map gathering_of sessions)
    ∙ (ap (slice_get (map gathering_of sessions)) (same_place number sessions)
    ∙ elim (cases_lt n (length sessions)) [
      | inl under ↦ sym (ap (λ t. option_and_then (slice_get (map gathering_of sessions)) (if t then Some n else None)) (lt-ltb n (length sessions) under))
      | inr past ↦ slice_get_past (map gathering_of sessions) n (omega (arith, past, length-map sessions gathering_of))
          ∙ sym (ap (λ t. option_and_then (slice_get (map gathering_of sessions)) (if t then Some n else None)) (le-ltb n (length sessions) past))
    ])

-- an open session, which stands at a place of what a leader keeps
module _ {l : Leading} {s : Dimensions} {last place : ℕ} {sessions : List OpenSession} {pages : List PageContents} {x : OpenSession}
    (view : record { shape = s; state = leader_state_of sessions last pages } ≡ l) (parts : AreParts s sessions last pages)
    (within : place < length l.state.sessions) (is : x ≡ get_or sessions place x) where
  below : place < length sessions
  below = inside view parts within

  pub sound_there : IsSessionOf s x
  sound_there = subst (IsSessionOf s) (sym is) (parts.opened.each place x below)

  pub open_is : slice_get l.state.sessions place ≡ Some (gathering_of x)
  open_is =
      slice_get-get_or l.state.sessions place (gathering_of x) within
      ∙ (ap (λ (m : Leading). Some (get_or m.state.sessions place (gathering_of x))) (sym view)
      ∙ (ap Some (get_or-map gathering_of sessions place x (gathering_of x) below)
      ∙ ap (λ (y : OpenSession). Some (gathering_of y)) (sym is)))

  -- the sessions with a piece more in it
  module _ {more : Gathering} (g : OpenSession) (becomes : gathering_of g ≡ more) (same : more.number ≡ x.number) where
    alike : g.number ≡ x.number
    alike = ap (λ (y : Gathering). y.number) becomes ∙ same

    pub parts_more : ((t : Dimensions) → IsSessionOf t x → IsSessionOf t g) → AreParts s (set sessions place g) last pages
    parts_more sound = record {
      opened = sessions_with s sessions place g x below last parts.opened (sound s sound_there) (alike ∙ ap (λ (y : OpenSession). y.number) is);
      rebuilt = subst (λ n. AreRebuilt s n pages) (sym (length-set sessions place g)) parts.rebuilt;
    }

    pub gathered_more : gathered s (get_or (map gathering_of (set sessions place g)) place (gathering_of x))
        (leader_state_of (set sessions place g) last pages) ≡ gathered l.shape more l.state
    gathered_more =
        ap₂ (λ (y : Gathering) (gs : List Gathering). gathered s y (record { sessions = gs; last_session = last; rebuilt = map rebuilt_in pages }))
        (get_or-map gathering_of (set sessions place g) place x (gathering_of x)
        (omega (arith, below, length-set sessions place g))
        ∙ ap gathering_of (get_or-set_same sessions place g x below))
        (session_set sessions place x below is parts.opened.rising g alike)
        ∙ (gathered_twice s (gathering_of g) (leader_state_of sessions last pages)
        ∙ ap₂ (λ (m : Leading) (y : Gathering). gathered m.shape y m.state) view becomes)
