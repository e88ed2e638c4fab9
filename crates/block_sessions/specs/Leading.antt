-- What a leader keeps, as contracts see it.
use Rattle.std.specs.Prelude.{ℕ, suc, ◌<◌, ◌≤◌, List, [], ◌∷◌, ◌++◌, All, AllPairs, length, map}
use Rattle.group_types.specs.Dimensions.{Dimensions}
use Rattle.page_map.specs.Pages.{PageContents}
use Rattle.group_run.specs.Process.{LeaderState}
use Rattle.block_sessions.specs.declared.session.OpenSession.{OpenSession}
use Rattle.block_sessions.specs.Opened.{IsSessionOf, blank_session, gathering_of}
use Rattle.block_sessions.specs.Rebuilt.{AreRebuilt, rebuilt_in}

-- the shape of its group, and what the machine has of it
pub record Leading : Type 0 where
  pub shape : Dimensions
  pub state : LeaderState

-- what these sessions and pages are to the machine
abbrev pub leader_state_of : List OpenSession → ℕ → List PageContents → LeaderState
leader_state_of sessions last pages = record { sessions = map gathering_of sessions; last_session = last; rebuilt = map rebuilt_in pages }

-- the state with the rebuilt blocks that these pages hold
abbrev pub holding : List PageContents → LeaderState → LeaderState
holding pages state = record state { rebuilt = map rebuilt_in pages }

-- open sessions whose numbers rise, up to the last
pub record AreSessions (s : Dimensions) (last : ℕ) (sessions : List OpenSession) : Type 0 where
  pub each : All (IsSessionOf s) sessions
  pub rising : AllPairs (λ g h. g.number < h.number) sessions
  pub numbered : All (λ g. g.number ≤ last) sessions

-- such sessions, and rebuilt blocks with room for one more in each session
pub record AreParts (s : Dimensions) (sessions : List OpenSession) (last : ℕ) (pages : List PageContents) : Type 0 where
  pub opened : AreSessions s last sessions
  pub rebuilt : AreRebuilt s (length sessions) pages

-- a session more, whose number comes after the last
abbrev pub started : Dimensions → ℕ → List ℕ → List ℕ → LeaderState → LeaderState
started s block lost rows state = record state {
  sessions = state.sessions ++ blank_session s (suc state.last_session) block lost rows ∷ [];
  last_session = suc state.last_session;
}
