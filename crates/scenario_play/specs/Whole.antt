-- What comes of a script whose source tells the bytes that are to come.
use Rattle.std.specs.Prelude.{◌≡◌, ℕ, List, [], drop, Some, IfSome}
use Rattle.edge_io.specs.Moving.{Appends}
use Rattle.scenario_play.specs.Language.{Language, status_told}
use Rattle.scenario_play.specs.Outside.{EndsWith, Outside, StopsWithin}
use Rattle.scenario_play.specs.Played.{IsPlayed}
use Rattle.scenario_play.specs.Status.{IsStatusTold, TellsOfLine, last_line}
use Rattle.scenario_play.specs.declared.status.Status.{Status}
use Rattle.scenario_play.specs.declared.status.Status.TheVariants.{Done, TooLong}

-- the script is all that the source had: none of it is left, but where it is too long what follows its limit
pub record PlaysAll (l : Language) (all : List ℕ) (before now : Outside) (status : Status) : Type 0 where
  pub told : IsStatusTold (status_told l all) before.reads now.reads before.writes now.writes status
  pub done_left : status ≡ Done → now.input.left ≡ Some []
  pub done_bytes : status ≡ Done → Appends before.held now.held (l.transcript all)
  pub promises : status ≡ Done → l.Promise all
  pub refused_left : TellsOfLine status → now.input.left ≡ Some []
  pub refused_bytes : TellsOfLine status → EndsWith before.held now.held before.writes now.writes (l.transcript all) (last_line status)
  pub too_long_left : status ≡ TooLong → now.input.left ≡ Some (drop 16777217 all)
  pub bytes : StopsWithin before.held now.held (l.transcript all) status

-- so it is of every script of the language that is played
abbrev pub PlaysAllAlways : Language → Type 0
PlaysAllAlways l = (before now : Outside) (status : Status) → IsPlayed l before now status → IfSome before.input.left (λ all. PlaysAll l all before now status)
