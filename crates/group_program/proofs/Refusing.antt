-- A text that gives no settings of a member, or of a carry.
use Rattle.std.proofs.Common.{◌≡◌, inl, inr, ℕ, List, Option, Result, Ok, Err, sym, subst}
use Rattle.std.specs.Result.{IsErrAnd}
use Rattle.edge_io.specs.Moving.{Input}
use Rattle.group_config.specs.Carrying.{CarryComesOf}
use Rattle.group_config.specs.MemberReading.{GivesMember, MemberComesOf}
use Rattle.group_config.specs.Text.{HasReadSettings}
use Rattle.group_config.specs.Watching.{WatchComesOf}
use Rattle.group_config.specs.declared.carry_fault.CarryKeyFault.{CarryKeyFault}
use Rattle.group_config.specs.declared.carry_fault.CarryKeyFault.TheVariants as carry_fault
use Rattle.group_config.specs.declared.carry_settings.CarrySettings.{CarrySettings}
use Rattle.group_config.specs.declared.member_fault.MemberFault.{MemberFault}
use Rattle.group_config.specs.declared.member_fault.MemberFault.TheVariants as fault
use Rattle.group_config.specs.declared.member_settings.MemberSettings.{MemberSettings}
use Rattle.group_config.specs.declared.watch_settings.WatchSettings.{WatchSettings}
use Rattle.group_program.specs.Carrying as carrying
use Rattle.group_program.specs.Carrying.{IsGivenCarryOr}
use Rattle.group_program.specs.Member.{IsGivenMemberOr, stop_of}
use Rattle.group_program.specs.Watching.{IsGivenWatchOr}
use Rattle.group_program.specs.declared.carry_stop.CarryStop.{CarryStop}
use Rattle.group_program.specs.declared.member_stop.MemberStop.{MemberStop}

pub refused : (name : Option (List ℕ)) (before now : Input) (text : List ℕ) (f : MemberFault) (out : Result MemberSettings MemberStop)
    → HasReadSettings before now text
    → MemberComesOf name text (Err f) → IsErrAnd out (λ e. e ≡ stop_of f) → IsGivenMemberOr name before now out
refused name before now text f (Ok settings) read comes is = absurd is
refused name before now text (fault.BadKey key) (Err e) read comes is =
    subst (λ (s : MemberStop). IsGivenMemberOr name before now (Err s)) (sym is)
    (record { text = text; read = read; refuses = comes })
refused name before now text fault.Want (Err e) read comes is = subst (λ (s : MemberStop). IsGivenMemberOr name before now (Err s)) (sym is) tt

-- and none of how it is watched: those of the member are refused, or else these
pub member_refused : (name : Option (List ℕ)) (before now : Input) (text : List ℕ) (f : MemberFault)
    (out : Result (MemberSettings × WatchSettings) MemberStop) → HasReadSettings before now text
    → MemberComesOf name text (Err f) → IsErrAnd out (λ e. e ≡ stop_of f) → IsGivenWatchOr name before now out
member_refused name before now text f (Ok given) read comes is = absurd is
member_refused name before now text (fault.BadKey key) (Err e) read comes is =
    subst (λ (s : MemberStop). IsGivenWatchOr name before now (Err s)) (sym is)
    (record { text = text; read = read; refuses = inl comes })
member_refused name before now text fault.Want (Err e) read comes is = subst (λ (s : MemberStop). IsGivenWatchOr name before now (Err s)) (sym is) tt

pub watch_refused : (name : Option (List ℕ)) (before now : Input) (text : List ℕ) (settings : MemberSettings)
    (f : MemberFault) (out : Result (MemberSettings × WatchSettings) MemberStop) → HasReadSettings before now text
    → GivesMember name text settings → WatchComesOf text (Err f) → IsErrAnd out (λ e. e ≡ stop_of f) → IsGivenWatchOr name before now out
watch_refused name before now text settings f (Ok given) read gives comes is = absurd is
watch_refused name before now text settings (fault.BadKey key) (Err e) read gives comes is =
    subst (λ (s : MemberStop). IsGivenWatchOr name before now (Err s)) (sym is) (record { text = text; read = read; refuses = inr (settings, gives, comes) })
watch_refused name before now text settings fault.Want (Err e) read gives comes is =
    subst (λ (s : MemberStop). IsGivenWatchOr name before now (Err s)) (sym is) tt

-- and none of a carry
pub carry_refused : (before now : Input) (text : List ℕ) (f : CarryKeyFault) (out : Result CarrySettings CarryStop) → HasReadSettings before now text
    → CarryComesOf text (Err f) → IsErrAnd out (λ e. e ≡ carrying.stop_of f) → IsGivenCarryOr before now out
carry_refused before now text f (Ok settings) read comes is = absurd is
carry_refused before now text (carry_fault.BadKey key) (Err e) read comes is =
    subst (λ (s : CarryStop). IsGivenCarryOr before now (Err s)) (sym is)
    (record { text = text; read = read; refuses = comes })
carry_refused before now text carry_fault.Want (Err e) read comes is = subst (λ (s : CarryStop). IsGivenCarryOr before now (Err s)) (sym is) tt
