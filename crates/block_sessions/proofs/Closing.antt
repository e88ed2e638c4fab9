-- What comes in for a session, in the machine's words.
use Rattle.std.proofs.Common.{◌≡◌, ◌≢◌, ℕ, suc, ◌-◌, ◌<◌, ◌≤◌, ◌==◌, Bool, true, false, List, [], ◌∷◌, ◌++◌, length}
use Rattle.std.proofs.Common.{map, take, drop, set, get_or, AllPairs, refl, sym, ap, ap₂, ◌∙◌, subst, eq-eqb, inl, inr}
use Rattle.std.proofs.Common.{arith}
use Rattle.std.specs.Prelude.{if◌then◌else◌}
use Rattle.std.specs.List.{remove}
use Rattle.std.proofs.lemmas.Bool.{cases_eq, cases_lt}
use Rattle.std.proofs.lemmas.List.{drop-map, get_or-map, get_or_default, length-map, length-set, get_or-set_other}
use Rattle.std.proofs.lemmas.List.{get_or-set_same, map-append, map-set, set-get_or, take-map}
use Rattle.std.proofs.lemmas.List.Edits.{length-remove}
use Rattle.std.proofs.lemmas.List.Elements.{All-append, All-drop, All-set, All-take}
use Rattle.std.proofs.lemmas.List.Quantifiers.{all_pairs_remove}
use Rattle.group_types.specs.Dimensions.{Dimensions}
use Rattle.page_map.specs.Pages.{PageContents}
use Rattle.group_run.specs.Leaders.{gathered, gathered_when, is_complete, with_decoded, with_session, without_session}
use Rattle.group_run.specs.Process.{Gathering, LeaderState}
use Rattle.block_sessions.specs.declared.session.OpenSession.{OpenSession}
use Rattle.block_sessions.specs.Leading.{AreParts, AreSessions, Leading, holding, leader_state_of}
use Rattle.block_sessions.specs.Opened.{IsSessionOf, gathering_of}
use Rattle.block_sessions.specs.Rebuilt.{AreRebuilt, rebuilt_in}
use Rattle.block_sessions.proofs.Places.{only_removed, only_replaced}

abbrev number_of : Gathering → ℕ
number_of g = g.number

-- a place of what the machine has
pub inside : {l : Leading} {s : Dimensions} {sessions : List OpenSession} {last place : ℕ} {pages : List PageContents}
    → record { shape = s; state = leader_state_of sessions last pages } ≡ l
    → AreParts s sessions last pages → place < length l.state.sessions → place < length sessions
inside {l} {s} {sessions} view parts within = omega (arith, within, length-map sessions gathering_of, ap (λ (m : Leading). length m.state.sessions) view)

module _ (sessions : List OpenSession) (place : ℕ) (x : OpenSession) (below : place < length sessions) (is : x ≡ get_or sessions place x)
    (rising : AllPairs (λ g h. g.number < h.number) sessions) where
  same_at : (j : ℕ) → j < length sessions → number_of (get_or (map gathering_of sessions) j (gathering_of x)) ≡ (get_or sessions j x).number
  same_at j less = ap number_of (get_or-map gathering_of sessions j x (gathering_of x) less)

  same_there : number_of (get_or (map gathering_of sessions) place (gathering_of x)) ≡ x.number
  same_there = same_at place below ∙ ap (λ (y : OpenSession). y.number) (sym is)

  others_differ : (j : ℕ) → j < length (map gathering_of sessions) → j ≢ place → number_of (get_or (map gathering_of sessions) j (gathering_of x)) ≢ x.number
  others_differ j less apart same =
      let within : j < length sessions = omega (arith, length-map sessions gathering_of) in
      let here = same_at j within in
      let there = ap (λ (y : OpenSession). y.number) is in
      elim (cases_lt j place) [
        | inl before ↦ let up = rising j place x before below in omega (arith, up, here, there, same)
        | inr behind ↦ let up = rising place j x (omega (arith, apart)) within in omega (arith, up, here, there, same)
      ]

  below_map : place < length (map gathering_of sessions)
  below_map = omega (arith, below, length-map sessions gathering_of)

  pub session_set : (g : OpenSession) → g.number ≡ x.number → map gathering_of (set sessions place g)
      ≡ with_session (gathering_of g) (map gathering_of sessions)
  session_set g same =
      map-set gathering_of sessions place g
      ∙ (only_replaced number_of x.number (gathering_of x) (gathering_of g) (map gathering_of sessions) place below_map same_there others_differ
      ∙ ap (λ n. map (λ y. if y.number == n then gathering_of g else y) (map gathering_of sessions)) (sym same))

  pub session_removed : map gathering_of (remove sessions place) ≡ without_session x.number (map gathering_of sessions)
  session_removed =
      map-append gathering_of (take place sessions) (drop (suc place) sessions)
      ∙ (ap₂ (λ xs ys. xs ++ ys) (sym (take-map gathering_of place sessions)) (sym (drop-map gathering_of (suc place) sessions))
      ∙ only_removed number_of x.number (gathering_of x) (map gathering_of sessions) place below_map same_there others_differ)

  module _ (s : Dimensions) (last : ℕ) (pages : List PageContents) (g : Gathering) where
    there_is : gathering_of x ≡ get_or (map gathering_of sessions) place g
    there_is = ap gathering_of is ∙ sym (get_or-map gathering_of sessions place x g below)

    -- a session that is as it was, and waits on
    pub waits_on : is_complete s (gathering_of x) ≡ false → leader_state_of sessions last pages
        ≡ gathered s (get_or (map gathering_of sessions) place g) (leader_state_of sessions last pages)
    waits_on waits =
        sym (ap (λ t. gathered_when t s (gathering_of x) (leader_state_of sessions last pages)) waits
        ∙ ap (λ (gs : List Gathering). record { sessions = gs; last_session = last; rebuilt = map rebuilt_in pages })
        (sym (session_set x refl) ∙ ap (map gathering_of) (ap (set sessions place) is ∙ set-get_or sessions place x)))
        ∙ ap (λ (y : Gathering). gathered s y (leader_state_of sessions last pages)) there_is

    -- one that is closed
    pub closes : (new : List PageContents) → is_complete s (gathering_of x) ≡ true
        → ((state : LeaderState) → holding new state ≡ with_decoded s (gathering_of x) x.lost.items
        (holding pages state))
        → leader_state_of (remove sessions place) last new ≡ gathered s (get_or (map gathering_of sessions) place g) (leader_state_of sessions last pages)
    closes new complete kept =
        kept (leader_state_of (remove sessions place) last pages)
        ∙ (ap (λ (gs : List Gathering). with_decoded s (gathering_of x) x.lost.items
        (record { sessions = gs; last_session = last; rebuilt = map rebuilt_in pages })) session_removed
        ∙ (sym (ap (λ t. gathered_when t s (gathering_of x) (leader_state_of sessions last pages)) complete)
        ∙ ap (λ (y : Gathering). gathered s y (leader_state_of sessions last pages)) there_is))

-- the sessions without one
pub sessions_without : (s : Dimensions) (last : ℕ) (sessions : List OpenSession) (place : ℕ) → place < length sessions
    → AreSessions s last sessions → AreSessions s last (remove sessions place)
sessions_without s last sessions place below is = record {
  each = All-append (IsSessionOf s) (take place sessions) (drop (suc place) sessions)
      (All-take (IsSessionOf s) place sessions is.each) (All-drop (IsSessionOf s) (suc place) sessions is.each);
  rising = all_pairs_remove (λ (g h : OpenSession). g.number < h.number) sessions place below is.rising;
  numbered = All-append (λ (g : OpenSession). g.number ≤ last) (take place sessions) (drop (suc place) sessions)
      (All-take (λ (g : OpenSession). g.number ≤ last) place sessions is.numbered)
      (All-drop (λ (g : OpenSession). g.number ≤ last) (suc place) sessions is.numbered);
}

pub parts_without : (s : Dimensions) (last : ℕ) (sessions : List OpenSession) (pages new : List PageContents) (place : ℕ)
    → place < length sessions → AreParts s sessions last pages
    → ((most : ℕ) → AreRebuilt s most pages → AreRebuilt s (most - 1) new) → AreParts s (remove sessions place) last new
parts_without s last sessions pages new place below is rebuilt = record {
  opened = sessions_without s last sessions place below is.opened;
  rebuilt = subst (λ n. AreRebuilt s n new) (omega (arith, length-remove sessions place below)) (rebuilt (length sessions) is.rebuilt);
}

-- a session with more in
module _ (s : Dimensions) (sessions : List OpenSession) (place : ℕ) (g : OpenSession) (d : OpenSession) (below : place < length sessions) where
  pub sessions_with : (last : ℕ) → AreSessions s last sessions → IsSessionOf s g
      → g.number ≡ (get_or sessions place d).number → AreSessions s last (set sessions place g)
  sessions_with last is sound same = record {
    each = All-set (IsSessionOf s) sessions place g sound is.each;
    rising = λ i j e lt under. rises i j e lt (omega (arith, length-set sessions place g));
    numbered = All-set (λ (x : OpenSession). x.number ≤ last) sessions place g (omega (arith, same, is.numbered place d below)) is.numbered;
  }
    where
      number_in : (j : ℕ) (e : OpenSession) → j < length sessions → (get_or (set sessions place g) j e).number ≡ (get_or sessions j e).number
      number_in j e less = elim (cases_eq j place) [
        | inl here ↦ ap (λ i. (get_or (set sessions place g) i e).number) here
            ∙ (ap (λ (x : OpenSession). x.number) (get_or-set_same sessions place g e below)
            ∙ (same ∙ (ap (λ (x : OpenSession). x.number) (get_or_default sessions place d e below)
            ∙ ap (λ i. (get_or sessions i e).number) (sym here))))
        | inr apart ↦ ap (λ (x : OpenSession). x.number) (get_or-set_other sessions place j g e apart)
      ]

      rises : (i j : ℕ) (e : OpenSession) → i < j → j < length sessions → (get_or (set sessions place g) i e).number
          < (get_or (set sessions place g) j e).number
      rises i j e lt less = omega (arith, number_in i e (omega arith), number_in j e less, is.rising i j e lt less)

-- what is gathered of a session whose new parts the sessions have already
pub with_twice : (g : Gathering) (xs : List Gathering) → with_session g (with_session g xs) ≡ with_session g xs
with_twice g [] = refl
with_twice g (x ∷ xs) = ap₂ (λ y ys. y ∷ ys) (by (x.number == g.number) refl) (with_twice g xs)
  where
    by : (t : Bool) → (x.number == g.number) ≡ t
        → (if (if x.number == g.number then g else x).number == g.number then g else
        (if x.number == g.number then g else x)) ≡ (if x.number == g.number then g else x)
    by true same = rw same (ap (λ t. if t then g else g) (eq-eqb g.number g.number refl))
    by false apart = rw (apart, apart) refl

pub without_with : (g : Gathering) (xs : List Gathering) → without_session g.number (with_session g xs) ≡ without_session g.number xs
without_with g [] = refl
without_with g (x ∷ xs) = by (without_with g xs) (x.number == g.number) refl
  where
    by : without_session g.number (with_session g xs) ≡ without_session g.number xs → (t : Bool)
        → (x.number == g.number) ≡ t → without_session g.number (with_session g (x ∷ xs)) ≡ without_session g.number
        (x ∷ xs)
    by rest true same = let itself : (g.number == g.number) ≡ true = eq-eqb g.number g.number refl in rw (same, itself) rest
    by rest false apart = rw (apart, apart) (ap (λ ys. x ∷ ys) rest)

pub gathered_twice : (s : Dimensions) (g : Gathering) (state : LeaderState)
    → gathered s g (record state { sessions = with_session g state.sessions }) ≡ gathered s g state
gathered_twice s g state = by (is_complete s g)
  where
    by : (t : Bool) → gathered_when t s g (record state { sessions = with_session g state.sessions }) ≡ gathered_when t s g state
    by true = ap (λ (gs : List Gathering). with_decoded s g g.lost (record state { sessions = gs })) (without_with g state.sessions)
    by false = ap (λ (gs : List Gathering). record state { sessions = gs }) (with_twice g state.sessions)
