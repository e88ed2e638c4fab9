-- Texts of lines that a script goes on from.
use Rattle.std.proofs.Common.{ℕ, ◌≡◌, ◌+◌, ◌==◌, Bool, true, false, not, ◌&&◌, List, [], ◌∷◌, ◌++◌, length, flat_map}
use Rattle.std.proofs.Common.{All, Option, Some, None, refl, sym, ap, subst, ◌∙◌, arith}
use Rattle.std.proofs.lemmas.List.{append_assoc}
use Rattle.std.proofs.lemmas.List.Elements.{All-cons, All-nil}
use Rattle.std.proofs.lemmas.List.Splits.{slice_split_at, length-slice_split}
use Rattle.std.specs.Prelude.{Result, Ok, Err}
use Rattle.std.specs.List.{list_all, slice_split}
use Rattle.group_types.specs.Dimensions.{Dimensions}
use Rattle.group_calls.specs.declared.event.Event.{Event}
use Rattle.group_calls.specs.declared.event.Event.TheVariants as happens
use Rattle.group_run.specs.World.{World, step, world_after}
use Rattle.law_moves.proofs.Notices.{both}
use Rattle.scenario_text.specs.Meaning.{line_meaning}
use Rattle.scenario_text.specs.declared.line.Line.{Line}
use Rattle.scenario_text.specs.declared.line.Line.TheVariants.{Skipped, Group, Ask, Collect, Deliver, Fail, Flush, Trace, Drain, Show, Places, Time, Stop}
use Rattle.scenario_text.specs.declared.line.LineFault.{LineFault}
use Rattle.scenario_run.specs.Lines.{lines_of, without_empty_last}
use Rattle.scenario_text.specs.declared.line.LineFault.TheVariants.{BadLine}
use Rattle.scenario_run.specs.Course as course
use Rattle.scenario_run.specs.Course.{Goes, Ends, Refused, Fault}
use Rattle.scenario_run.specs.Playing.{Play, draining_unless_down, next_by, next_of}

-- the first line that is refused, where the next line has the number n
abbrev pub fault_in : ℕ → Option Play → List (List ℕ) → Option (Fault LineFault)
fault_in n p lines = course.fault_in next_of BadLine n p lines

-- lines that go on, whatever group of their shape they come to
abbrev pub is_plain : Result Line LineFault → Bool
is_plain (Err fault) = false
is_plain (Ok (Ask caller at act)) = true
is_plain (Ok (Deliver from to)) = true
is_plain (Ok (Fail at keep)) = true
is_plain (Ok (Flush at)) = true
is_plain (Ok Drain) = true
is_plain (Ok _) = false

-- a byte that ends no word and no line
abbrev pub in_word : ℕ → Bool
in_word b = not (b == 32) && not (b == 10)

shape-after : (w : World) (es : List Event) → (world_after w es).shape ≡ w.shape
shape-after w [] = refl
shape-after w (e ∷ es) = shape-after (step w e).world es

-- none of these is the byte c
all-not : (test : ℕ → Bool) (c : ℕ) → ((b : ℕ) → test b ≡ true → (b == c) ≡ false) → (w : List ℕ) → list_all test w ≡ true → All (λ b. (b == c) ≡ false) w
all-not test c apart [] passes = All-nil (λ b. (b == c) ≡ false)
all-not test c apart (b ∷ bs) passes =
    let parts = both (test b) (list_all test bs) passes in
    All-cons (λ x. (x == c) ≡ false) b bs (apart b parts.0) (all-not test c apart bs parts.1)

pub no-space : (w : List ℕ) → list_all in_word w ≡ true → All (λ b. (b == 32) ≡ false) w
no-space w passes = all-not in_word 32 apart w passes where
  apart : (b : ℕ) → in_word b ≡ true → (b == 32) ≡ false
  apart b is = by (b == 32) refl (both (not (b == 32)) (not (b == 10)) is).0 where
    by : (t : Bool) → (b == 32) ≡ t → not t ≡ true → (b == 32) ≡ false
    by true test is = absurd (cc is)
    by false test is = test

pub no-end : (w : List ℕ) → list_all (λ b. not (b == 10)) w ≡ true → All (λ b. (b == 10) ≡ false) w
no-end w passes = all-not (λ b. not (b == 10)) 10 apart w passes where
  apart : (b : ℕ) → not (b == 10) ≡ true → (b == 10) ≡ false
  apart b is = by (b == 10) refl is where
    by : (t : Bool) → (b == 10) ≡ t → not t ≡ true → (b == 10) ≡ false
    by true test is = absurd (cc is)
    by false test is = test

-- a line and what follows it
pub lines-more : (w rest : List ℕ) → list_all (λ b. not (b == 10)) w ≡ true → lines_of (w ++ 10 ∷ rest) ≡ w ∷ lines_of rest
lines-more w rest passes =
    ap without_empty_last (slice_split_at (λ b. b == 10) w 10 rest (no-end w passes) refl)
    ∙ by (slice_split (λ b. b == 10) rest) _ (length-slice_split (λ b. b == 10) rest)
  where
    by : (ls : List (List ℕ)) (n : ℕ) → length ls ≡ n + 1 → without_empty_last (w ∷ ls) ≡ w ∷ without_empty_last ls
    by [] n some = absurd (omega (arith, some))
    by (l ∷ ls) n some = behind w where
      behind : (v : List ℕ) → without_empty_last (v ∷ l ∷ ls) ≡ v ∷ without_empty_last (l ∷ ls)
      behind [] = refl
      behind (b ∷ bs) = refl

module _ (s : Dimensions) where
  -- a line that a script of this shape goes on from
  pub record GoesOn (p : Play) (line : List ℕ) : Type 0 where
    pub next : Play
    pub shape : next.world.shape ≡ s
    pub fault : (n : ℕ) (lines : List (List ℕ)) → fault_in n (Some p) (line ∷ lines) ≡ fault_in (n + 1) (Some next) lines

  goes-on : (p : Play) → p.world.shape ≡ s → (line : List ℕ) → is_plain (line_meaning (Some s) line) ≡ true → GoesOn p line
  goes-on p shape line plain =
      by (line_meaning (Some p.world.shape) line) refl (ap (λ (t : Dimensions). is_plain (line_meaning (Some t) line)) shape ∙ plain) where
        after : (e : Event) → Play
        after e = record { world = (step p.world e).world; moment = p.moment }

        fault-is : (r : Result Line LineFault) → line_meaning (Some p.world.shape) line ≡ r → (n : ℕ) (lines : List (List ℕ))
            → fault_in n (Some p) (line ∷ lines) ≡ elim (next_by (Some p) r) [
              | Goes next turns text ↦ fault_in (n + 1) next lines
              | Ends ↦ None
              | Refused fault ↦ Some
                  (record { number = n; cause = fault })
            ]
        fault-is r is n lines =
            ap (λ (x : Result Line LineFault). elim (next_by (Some p) x) [
              | Goes next turns text ↦ fault_in (n + 1) next lines
              | Ends ↦ None
              | Refused fault ↦ Some
                  (record { number = n; cause = fault })
            ]) is

        by : (r : Result Line LineFault) → line_meaning (Some p.world.shape) line ≡ r → is_plain r ≡ true → GoesOn p line
        by (Err fault) is plain = absurd (cc plain)
        by (Ok (Ask caller at act)) is plain =
            record {
              next = after (happens.Ask caller (record { moment = p.moment; act = act }) at);
              shape = shape;
              fault = fault-is (Ok (Ask caller at act)) is;
            }
        by (Ok (Deliver from to)) is plain = record { next = after (happens.Deliver from to); shape = shape; fault = fault-is (Ok (Deliver from to)) is }
        by (Ok (Fail at keep)) is plain = record { next = after (happens.Fail at keep); shape = shape; fault = fault-is (Ok (Fail at keep)) is }
        by (Ok (Flush at)) is plain = record { next = after (happens.Flush at); shape = shape; fault = fault-is (Ok (Flush at)) is }
        by (Ok Drain) is plain =
            record {
              next = record { world = world_after p.world (draining_unless_down p.world); moment = p.moment };
              shape = shape-after p.world (draining_unless_down p.world) ∙ shape;
              fault = fault-is (Ok Drain) is;
            }
        by (Ok Skipped) is plain = absurd (cc plain)
        by (Ok (Group t)) is plain = absurd (cc plain)
        by (Ok (Collect caller call at)) is plain = absurd (cc plain)
        by (Ok (Trace caller call d at)) is plain = absurd (cc plain)
        by (Ok (Show at run)) is plain = absurd (cc plain)
        by (Ok Places) is plain = absurd (cc plain)
        by (Ok (Time moment)) is plain = absurd (cc plain)
        by (Ok Stop) is plain = absurd (cc plain)

  -- no line of a text is refused, wherever it comes behind the group line
  abbrev pub NoneRefused : List ℕ → Type 0
  NoneRefused text = (n : ℕ) (p : Play) → p.world.shape ≡ s → fault_in n (Some p) (lines_of text) ≡ None

  -- none of it is, if none of what follows is
  abbrev pub Passes : List ℕ → Type 0
  Passes text = (rest : List ℕ) → NoneRefused rest → NoneRefused (text ++ rest)

  pub line-passes : (w : List ℕ) → list_all (λ b. not (b == 10)) w ≡ true → is_plain (line_meaning (Some s) w) ≡ true → Passes (w ++ 10 ∷ [])
  line-passes w clean plain rest none n p shape =
      ap (λ (text : List ℕ). fault_in n (Some p) (lines_of text)) (append_assoc w (10 ∷ []) rest)
      ∙ ap (fault_in n (Some p)) (lines-more w rest clean)
      ∙ (goes-on p shape w plain).fault n (lines_of rest)
      ∙ none (n + 1) (goes-on p shape w plain).next (goes-on p shape w plain).shape

  pub none-passes : Passes []
  none-passes rest none = none

  pub both-pass : (a b : List ℕ) → Passes a → Passes b → Passes (a ++ b)
  both-pass a b first second rest none = subst NoneRefused (sym (append_assoc a b rest)) (first (b ++ rest) (second rest none))

  pub each-passes : (f : ℕ → List ℕ) → ((x : ℕ) → Passes (f x)) → (xs : List ℕ) → Passes (flat_map f xs)
  each-passes f each [] = none-passes
  each-passes f each (x ∷ xs) = both-pass (f x) (flat_map f xs) (each x) (each-passes f each xs)
