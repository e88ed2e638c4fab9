-- What comes of a run of the program, whatever its words.
use Rattle.std.specs.Prelude.{◌≡◌, ◌≢◌, ◌⊎◌, ℕ, List, Option, Some, None}
use Rattle.command_line.specs.declared.command.Command.{Command}
use Rattle.command_line.specs.declared.command.Command.TheVariants.{Carry, Member, Serve, Session, Watch}
use Rattle.edge_io.specs.Faults.{Rose}
use Rattle.group_config.specs.declared.carry_settings.CarrySettings.{CarrySettings}
use Rattle.group_config.specs.declared.member_settings.MemberSettings.{MemberSettings}
use Rattle.group_config.specs.declared.watch_settings.WatchSettings.{WatchSettings}
use Rattle.group_server.specs.Service.{Tally}
use Rattle.group_types.specs.Dimensions.{Dimensions}
use Rattle.group_types.specs.Shape.{IsShape}
use Rattle.member_machine.specs.declared.carry_end.CarryEnd.{CarryEnd}
use Rattle.member_machine.specs.declared.end.MemberEnd.{MemberEnd}
use Rattle.scenario_play.specs.Outside.{Outside}
use Rattle.scenario_play.specs.Status.{number_of_status}
use Rattle.scenario_play.specs.declared.status.Status.{Status}
use Rattle.scenario_play.specs.declared.status.Status.TheVariants.{AcceptFault, BadWords, ReadFault, WriteFault}
use Rattle.group_program.specs.Carrying.{IsCarry}
use Rattle.group_program.specs.Member.{IsMember}
use Rattle.group_program.specs.Program.{HasCarriedOut, HasNoMemoryForWords}
use Rattle.group_program.specs.Watching.{IsWatched}
use Rattle.group_program.specs.Words.{ReadsNothing, RunsNoMember}
use Rattle.group_program.specs.declared.edges.Edges.{Edges}

-- over edges that tell of themselves: a source and a sink, a port, a machine and a clock
module _ {S K L M T : Type 0} (streams : S → K → Outside) (listened : L → List ℕ → L → Type 0) (tells : L → Tally) (faults : L → ℕ)
    (runs : M → MemberSettings → MemberEnd → M → Type 0) (watches : M → MemberSettings → WatchSettings → MemberEnd → M → Type 0)
    (carries : M → CarrySettings → CarryEnd → M → Type 0) (moment : T → Option ℕ) (e e_now : Edges S K L M T) where
  abbrev pub outside_before : Outside
  outside_before = streams e.source e.sink

  abbrev pub outside_now : Outside
  outside_now = streams e_now.source e_now.sink

  -- there was no memory to read the words, which was told, and the source is as it was
  abbrev pub HasNotBegun : Status → Type 0
  HasNotBegun status = HasNoMemoryForWords outside_before.held outside_now.held status × (e_now.source ≡ e.source)

  -- and so is the machine
  abbrev pub HasNotRun : Status → Type 0
  HasNotRun status = HasNoMemoryForWords outside_before.held outside_now.held status × (e_now.source ≡ e.source) × (e_now.machine ≡ e.machine)

  -- what comes of a command, which is none where the words say none: what a command promises where all was done follows from `ran`
  pub record HasRunCommand (command : Option Command) (status : Status) : Type 0 where
    pub ran : HasCarriedOut listened tells e.port e_now.port command (moment e.clock) outside_before outside_now status ⊎ HasNotBegun status
    pub member : (name : Option (List ℕ)) → command ≡ Some (Member name)
        → IsMember runs e.machine e_now.machine name outside_before outside_now status ⊎ HasNotRun status
    pub watch : (name : Option (List ℕ)) → command ≡ Some (Watch name) → IsWatched watches e.machine e_now.machine name
        outside_before outside_now status ⊎ HasNotRun status
    pub carry : command ≡ Some Carry → IsCarry carries e.machine e_now.machine outside_before outside_now status ⊎ HasNotRun status
    pub bad_words : status ≡ BadWords → command ≡ None
    pub read : status ≡ ReadFault → Rose outside_before.reads outside_now.reads
    pub write : status ≡ WriteFault → Rose outside_before.writes outside_now.writes
    pub accept : status ≡ AcceptFault → Rose (faults e.port) (faults e_now.port)
    pub unread : ReadsNothing command → e_now.source ≡ e.source
    pub unshaped : (d : Dimensions) → command ≡ Some (Session d.k d.m d.blocks d.block) → ¬ (IsShape d) → e_now.source ≡ e.source
    pub listener : command ≢ Some Serve → e_now.port ≡ e.port
    pub machine : RunsNoMember command → e_now.machine ≡ e.machine
    pub clock : e_now.clock ≡ e.clock

  -- the program ended with the number of a status that the run of a command has
  pub record HasExited (command : Option Command) (number : ℕ) : Type 0 where
    pub status : Status
    pub number_is : number ≡ number_of_status status
    pub run : HasRunCommand command status
