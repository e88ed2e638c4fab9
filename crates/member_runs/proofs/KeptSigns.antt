-- What an action of one member leaves of the pings and pongs of another, and whether that is here.
use Rattle.std.proofs.Common.{ℕ, suc, ◌≡◌, ◌≢◌, Bool, true, false, List, [], ◌∷◌, ◌++◌, refl, sym, ap}
use Rattle.std.specs.Prelude.{nat_le}
use Rattle.group_types.specs.Dimensions.{Dimensions}
use Rattle.group_types.specs.Names.{same_process}
use Rattle.group_types.specs.declared.process.ProcessId.{ProcessId}
use Rattle.group_wire.specs.Actions.{Action, Begin, Send, Read, Treat, Collect, Flush, Learn, Receive, GiveUp, Cut, Say}
use Rattle.group_wire.specs.Actions.{Hear, Permit, Take, Ping, Pong, Count, Show, LetGo, Stop}
use Rattle.group_wire.specs.Sets.{Processes, changed, one_or, with_one}
use Rattle.group_wire.specs.State.{Signs}
use Rattle.group_wire.specs.Stepping.{answered_first, counted_first, gone_after, signs_after}
use Rattle.member_runs.specs.Reading.{rest_of}
use Rattle.member_runs.proofs.Acting.{by_of, reads_ping, reads_pong}
use Rattle.member_runs.proofs.Rows.{changed-other, less_if, row-empty, row-read}

-- the signs of q stay, but that p may have read the first ping or pong
pub record KeepsSigns (g now : Signs) (q p : ProcessId) (ping pong : Bool) : Type 0 where
  pub pinged : now.pinged q ≡ g.pinged q
  pub answered : now.answered q ≡ g.answered q
  pub pings : (r : ProcessId) → now.pings q r ≡ less_if ping p (g.pings q) r
  pub pongs : (r : ProcessId) → now.pongs q r ≡ less_if pong p (g.pongs q) r

module _ (cut : ProcessId → Processes) (g : Signs) (q : ProcessId) where
  same-signs : (p : ProcessId) → KeepsSigns g g q p false false
  same-signs p = record { pinged = refl; answered = refl; pings = λ r. refl; pongs = λ r. refl }

  answered-signs : (x p : ProcessId) (wire : List ℕ) → wire ≡ g.pings x p → q ≢ p → KeepsSigns g (answered_first cut x p wire g) q p (same_process q x) false
  answered-signs x p [] is other = record { pinged = refl; answered = refl; pings = λ r. row-empty g.pings x p (sym is) q r; pongs = λ r. refl }
  answered-signs x p (ping ∷ rest) is other = record {
    pinged = refl;
    answered = refl;
    pings = λ r. row-read g.pings x p rest (ap rest_of is) q r;
    pongs = λ r. ap (λ (row : ProcessId → List ℕ). row r)
        (changed-other g.pongs p q (changed (g.pongs p) x (one_or (cut p x) (g.pongs p x) (g.pongs p x ++ ping ∷ []))) other);
  }

  counted-signs : (x p : ProcessId) (wire : List ℕ) → wire ≡ g.pongs x p → q ≢ p → KeepsSigns g (counted_first x p wire g) q p false (same_process q x)
  counted-signs x p [] is other = record { pinged = refl; answered = refl; pings = λ r. refl; pongs = λ r. row-empty g.pongs x p (sym is) q r }
  counted-signs x p (ping ∷ rest) is other = record {
    pinged = refl;
    answered = changed-other g.answered p q (λ j. one_or (nat_le j ping) (with_one (g.answered p j) x) (g.answered p j)) other;
    pings = λ r. refl;
    pongs = λ r. row-read g.pongs x p rest (ap rest_of is) q r;
  }

  pub keeps-signs : (s : Dimensions) (a : Action) → q ≢ by_of s a → KeepsSigns g (signs_after cut g a) q (by_of s a) (reads_ping a q) (reads_pong a q)
  keeps-signs s (Ping to p) other = record {
    pinged = changed-other g.pinged p q (suc (g.pinged p)) other;
    answered = refl;
    pings = λ r. ap (λ (row : ProcessId → List ℕ). row r)
        (changed-other g.pings p q (λ z. one_or (cut p z) (g.pings p z) (g.pings p z ++ one_or (to z) (g.pinged p ∷ []) [])) other);
    pongs = λ r. refl;
  }
  keeps-signs s (Pong x p) other = answered-signs x p (g.pings x p) refl other
  keeps-signs s (Count x p) other = counted-signs x p (g.pongs x p) refl other
  keeps-signs s (Begin caller op) other = same-signs _
  keeps-signs s (Send caller to) other = same-signs _
  keeps-signs s (Read x p) other = same-signs _
  keeps-signs s (Treat p place) other = same-signs _
  keeps-signs s (Collect caller call p) other = same-signs _
  keeps-signs s (Flush p) other = same-signs _
  keeps-signs s (Learn x p) other = same-signs _
  keeps-signs s (Receive x p) other = same-signs _
  keeps-signs s (GiveUp caller) other = same-signs _
  keeps-signs s (Cut x p) other = same-signs _
  keeps-signs s (Say p) other = same-signs _
  keeps-signs s (Hear x p) other = same-signs _
  keeps-signs s (Permit p) other = same-signs _
  keeps-signs s (Take x p) other = same-signs _
  keeps-signs s (Show caller ping) other = same-signs _
  keeps-signs s (LetGo caller) other = same-signs _
  keeps-signs s (Stop p) other = same-signs _

-- one that is here stays, whatever another does
pub keeps-here : (s : Dimensions) (gone : Processes) (a : Action) (q : ProcessId) → q ≢ by_of s a → gone_after gone a q ≡ gone q
keeps-here s gone (Stop p) q other = changed-other gone p q true other
keeps-here s gone (Begin caller op) q other = refl
keeps-here s gone (Send caller to) q other = refl
keeps-here s gone (Read x p) q other = refl
keeps-here s gone (Treat p place) q other = refl
keeps-here s gone (Collect caller call p) q other = refl
keeps-here s gone (Flush p) q other = refl
keeps-here s gone (Learn x p) q other = refl
keeps-here s gone (Receive x p) q other = refl
keeps-here s gone (GiveUp caller) q other = refl
keeps-here s gone (Cut x p) q other = refl
keeps-here s gone (Say p) q other = refl
keeps-here s gone (Hear x p) q other = refl
keeps-here s gone (Permit p) q other = refl
keeps-here s gone (Take x p) q other = refl
keeps-here s gone (Ping to p) q other = refl
keeps-here s gone (Pong x p) q other = refl
keeps-here s gone (Count x p) q other = refl
keeps-here s gone (Show caller ping) q other = refl
keeps-here s gone (LetGo caller) q other = refl
