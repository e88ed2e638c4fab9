-- What lines of a script over eras write.
use Rattle.std.proofs.Common.{ℕ, zero, suc, ◌≡◌, inl, inr, Bool, true, false, nat_lt, List, [], ◌∷◌, ◌++◌, codes}
use Rattle.std.proofs.Common.{length, map, Option, Some, None, Result, Ok, Err, if◌then◌else◌, refl, sym, ap, subst}
use Rattle.std.proofs.Common.{◌∙◌, append_assoc}
use Rattle.std.proofs.lemmas.List.{append-nil}
use Rattle.std.specs.Fmt.{decimal}
use Rattle.std.specs.List.{range_with_len}
use Rattle.std.specs.Option.{is_some}
use Rattle.group_types.specs.Dimensions.{Dimensions}
use Rattle.group_types.specs.Lists.{at}
use Rattle.group_types.specs.Shape.{IsShape}
use Rattle.group_types.specs.declared.run.Run.{Run}
use Rattle.group_calls.specs.declared.event.Event.{Event}
use Rattle.group_calls.specs.declared.event.Event.TheVariants as happens
use Rattle.group_run.specs.Draining.{next_delivery}
use Rattle.group_run.specs.Shown.{held, is_down}
use Rattle.group_run.specs.World.{World, opening}
use Rattle.scenario_text.specs.Meaning.{line_meaning}
use Rattle.scenario_text.specs.Texts.{answer_text, place_text, places_text}
use Rattle.scenario_text.specs.Words.{split_words}
use Rattle.scenario_text.specs.declared.line.Line.{Line}
use Rattle.scenario_text.specs.declared.line.Line.TheVariants.{Skipped, Group, Ask, Collect, Deliver, Fail, Flush, Trace, Drain, Show, Places, Time, Stop}
use Rattle.scenario_text.specs.declared.line.LineFault.{LineFault}
use Rattle.scenario_text.specs.declared.line.LineFault.TheVariants.{BadLine}
use Rattle.scenario_run.specs.Course.{Ends, Goes, Refused, text_in, turns_of_lines}
use Rattle.scenario_run.specs.Lines.{lines_of}
use Rattle.scenario_run.specs.Placing.{many_runs, placed_text, runs_text}
use Rattle.scenario_run.specs.Playing.{draining_unless_down}
use Rattle.scenario_run.proofs.Beginning.{Begins, Onward, along, begins}
use Rattle.group_eras.specs.Carry.{carried, many_carried}
use Rattle.group_eras.specs.Eras.{EraEntry, Eras, carrier, era_step, eras_after, first_era, stamp_in}
use Rattle.group_eras.specs.Promise.{Carries, EraMove, Makes, all_done, done}
use Rattle.group_eras.proofs.Promises.{logs_only_grow}
use Rattle.regroup_run.specs.Meaning.{regroup_line}
use Rattle.regroup_run.specs.Playing.{EraNext, EraPlay, by_call, by_carry, by_drain, by_event, by_regroup, by_trace}
use Rattle.regroup_run.specs.Playing.{has_space, logged_since, look, next_by, next_of, refuses, regroup_by, regroups}
use Rattle.regroup_run.specs.Playing.{shape_in, eras_from, then_by}
use Rattle.regroup_run.specs.Script.{era_moves_of, transcript}
use Rattle.regroup_run.specs.Texts.{era_entries_text, era_entry_text, era_mark}
use Rattle.regroup_run.proofs.Leading.{done-append}
use Rattle.regroup_run.proofs.Running.{line-opens, never-ends}
use Rattle.law_told.specs.EraTexts.{EraLinesTell, EraTranscriptsTell, LineTells}
use Rattle.law_told.specs.Lines.{TellsLines, is_log_line, text_of}
use Rattle.law_told.proofs.Lines as lines
use Rattle.law_told.proofs.Lines.{AreOthers, answer-other, others-append, tells-append, tells-none, tells-said, text-append}

-- ---- which lines are of the log

mark-head : (era : ℕ) (text : List ℕ) → is_log_line (era_mark era ++ text) ≡ true
mark-head zero text = refl
mark-head (suc era) text = refl

entry-marked : (e : EraEntry) → is_log_line (era_entry_text e) ≡ true
entry-marked e = mark-head e.0 _

-- runs
record Said (text : List ℕ) : Type 0 where
  pub lines : List (List ℕ)
  pub others : AreOthers lines
  pub is : text ≡ text_of lines

places-said : (d n : ℕ) (runs : List (Option Run)) → Said (places_text d n runs)
places-said d n [] = record { lines = []; others = tt; is = refl }
places-said d n (None ∷ runs) = places-said d (suc n) runs
places-said d n (Some run ∷ runs) = let rest = places-said d (suc n) runs in record {
  lines = place_text d (suc n) run ∷ rest.lines;
  others = (refl, rest.others);
  is = ap (λ (t : List ℕ). place_text d (suc n) run ++ 10 ∷ t) rest.is;
}

both-said : (t u : List ℕ) → Said t → Said u → Said (t ++ u)
both-said t u first next = record {
  lines = first.lines ++ next.lines;
  others = others-append first.lines next.lines first.others next.others;
  is = ap (λ (a : List ℕ). a ++ u) first.is ∙ ap (λ (b : List ℕ). text_of first.lines ++ b) next.is ∙ sym (text-append first.lines next.lines);
}

runs-said : (bases : List ℕ) (w : World) (ds : List ℕ) → Said (runs_text bases w ds)
runs-said bases w [] = record { lines = []; others = tt; is = refl }
runs-said bases w (d ∷ ds) = both-said (places_text d (at 0 bases d) (at [] w.places d)) (runs_text bases w ds)
    (places-said d (at 0 bases d) (at [] w.places d)) (runs-said bases w ds)

placed-said : (bases : List ℕ) (w : World) → Said (placed_text bases w)
placed-said bases w =
    let n : ℕ = many_runs w (range_with_len 0 w.shape.k) in
    both-said (runs_text bases w (range_with_len 0 w.shape.k)) (codes "placed " ++ (decimal n ++ codes "\n")) (runs-said bases w (range_with_len 0 w.shape.k))
    (record { lines = (codes "placed " ++ decimal n) ∷ []; others = (refl, tt); is = sym (append_assoc (codes "placed ") (decimal n) (codes "\n")) })

-- ---- the log

since-is : (a b : List EraEntry) → logged_since a (a ++ b) ≡ b
since-is [] b = refl
since-is (x ∷ a) b = since-is a b

more-is : (a b more : List EraEntry) → b ≡ a ++ more → logged_since a b ≡ more
more-is a b more is = ap (logged_since a) is ∙ since-is a more

after-makes : (e : Eras) (es : List Event) → all_done e (map Makes es) ≡ eras_after e es
after-makes e [] = refl
after-makes e (x ∷ xs) = after-makes (era_step e x).eras xs

moves-grow : (e : Eras) (moves : List EraMove) → (more : List EraEntry) × ((all_done e moves).log ≡ e.log ++ more)
moves-grow e [] = ([], sym (append-nil e.log))
moves-grow e (move ∷ moves) =
    let one = logs_only_grow e move in
    let rest = moves-grow (done e move) moves in
    (one.0 ++ rest.0, rest.1 ∙ ap (λ (log : List EraEntry). log ++ rest.0) one.1 ∙ append_assoc e.log one.0 rest.0)

-- what a line that goes on comes to
record Comes (p : EraPlay) (line : List ℕ) (next : Option EraPlay) (moves : List EraMove) (text : List ℕ) : Type 0 where
  pub tells : LineTells p line moves text
  pub play : EraPlay
  pub is : next ≡ Some play
  pub to : play.eras ≡ all_done p.eras moves

abbrev ComesTo : EraPlay → List ℕ → EraNext → Type 0
ComesTo p line (Goes next moves text) = Comes p line next moves text
ComesTo p line Ends = Unit {0}
ComesTo p line (Refused fault) = Unit {0}

-- ---- what each kind of line comes to

-- nothing is done, and this is said
idle : (p q : EraPlay) (line : List ℕ) (text : List ℕ) → q.eras ≡ p.eras → Said text → Comes p line (Some q) [] text
idle p q line text same said = record {
  tells = record {
    said = said.lines;
    is_said = inl refl;
    logged = [];
    grows = sym (append-nil p.eras.log);
    tells = subst (λ (t : List ℕ). TellsLines era_entry_text t [] said.lines) (sym said.is) (tells-said era_entry_text said.lines said.others);
  };
  play = q;
  is = refl;
  to = same;
}

silent : Said []
silent = record { lines = []; others = tt; is = refl }

one-line : (line : List ℕ) → is_log_line line ≡ false → Said (line ++ 10 ∷ [])
one-line line other = record { lines = line ∷ []; others = (other, tt); is = refl }

event-comes : (p : EraPlay) (line : List ℕ) (e : Event) → ComesTo p line (by_event p e)
event-comes p line e = record {
  tells = record {
    said = answer_text (era_step p.eras e).answer ∷ [];
    is_said = inr (inl (record { event = e; only = refl; answer = refl }));
    logged = (era_step p.eras e).logged;
    grows = refl;
    tells = lines.said-first era_entry_text entry-marked (answer_text (era_step p.eras e).answer)
        (era_step p.eras e).logged (answer-other (era_step p.eras e).answer);
  };
  play = record { eras = (era_step p.eras e).eras; moment = p.moment };
  is = refl;
  to = refl;
}

call-comes : (p : EraPlay) (line : List ℕ) (caller : ℕ) (e : Event) → ComesTo p line (by_call p caller e)
call-comes p line caller e = by (nat_lt caller carrier) where
  by : (b : Bool) → ComesTo p line (if b then by_event p e else Refused BadLine)
  by true = event-comes p line e
  by false = tt

trace-comes : (p : EraPlay) (line : List ℕ) (caller call : ℕ) (e : Event) → ComesTo p line (by_trace p caller call e)
trace-comes p line caller call e = by (nat_lt call (at 0 p.eras.world.asked caller)) where
  by : (b : Bool) → ComesTo p line (if b then by_call p caller e else Refused BadLine)
  by true = call-comes p line caller e
  by false = tt

drain-comes : (p : EraPlay) (line : List ℕ) (es : List Event) → line_meaning (shape_in (Some p)) line ≡ Ok Drain → ComesTo p line (by_drain p es)
drain-comes p line es reads =
    let more = moves-grow p.eras (map Makes es) in
    let grows : (eras_after p.eras es).log ≡ p.eras.log ++ more.0 = ap (λ (e : Eras). e.log) (sym (after-makes p.eras es)) ∙ more.1 in
    let wrote : List ℕ = codes "drained " ++ decimal (length es) in
    let long : length es ≡ length (map Makes es) = sym (long-map es) in
    record {
      tells = record {
        said = (codes "drained " ++ decimal (length (map Makes es))) ∷ [];
        is_said = inr (inr (inl (record { drains = reads; many = refl })));
        logged = more.0;
        grows = more.1;
        tells = subst
            (λ (n : ℕ). TellsLines era_entry_text (era_entries_text (logged_since p.eras.log (eras_after p.eras es).log)
            ++ (codes "drained " ++ (decimal (length es) ++ codes "\n"))) more.0 ((codes "drained " ++ decimal n) ∷ []))
            long
            (subst (λ (xs : List EraEntry). TellsLines era_entry_text
            (era_entries_text xs ++ (codes "drained " ++ (decimal (length es) ++ codes "\n"))) more.0
            ((codes "drained " ++ decimal (length es)) ∷ []))
            (sym (more-is p.eras.log (eras_after p.eras es).log more.0 grows))
            (subst (λ (t : List ℕ). TellsLines era_entry_text (era_entries_text more.0 ++ t) more.0 ((codes "drained " ++ decimal (length es)) ∷ []))
            (append_assoc (codes "drained ") (decimal (length es)) (codes "\n"))
            (lines.said-last era_entry_text entry-marked (codes "drained " ++ decimal (length es)) more.0 refl)));
      };
      play = record { eras = eras_after p.eras es; moment = p.moment };
      is = refl;
      to = sym (after-makes p.eras es);
    }
  where
    long-map : (xs : List Event) → length (map Makes xs) ≡ length xs
    long-map [] = refl
    long-map (x ∷ xs) = ap suc (long-map xs)

carry-comes : (p : EraPlay) (line : List ℕ) (s : Dimensions) → ComesTo p line (by_carry p s)
carry-comes p line s =
    let more = logs_only_grow p.eras (Carries s) in
    let n : ℕ = many_carried p.eras in
    record {
      tells = record {
        said = (codes "regrouped " ++ decimal (many_carried p.eras)) ∷ [];
        is_said = inr (inr (inr (record { shape = s; only = refl; many = refl })));
        logged = more.0;
        grows = more.1;
        tells = subst
            (λ (xs : List EraEntry). TellsLines era_entry_text
            (codes "regrouped " ++ (decimal n ++ 10 ∷ era_entries_text xs)) more.0
            ((codes "regrouped " ++ decimal n) ∷ []))
            (sym (more-is p.eras.log (carried p.eras s).log more.0 more.1))
            (subst (λ (t : List ℕ). TellsLines era_entry_text t more.0 ((codes "regrouped " ++ decimal n) ∷ []))
            (append_assoc (codes "regrouped ") (decimal n) (10 ∷ era_entries_text more.0))
            (lines.said-first era_entry_text entry-marked (codes "regrouped " ++ decimal n) more.0 refl));
      };
      play = record { eras = carried p.eras s; moment = p.moment };
      is = refl;
      to = refl;
    }

regroup-comes : (p : EraPlay) (line : List ℕ) (s : Dimensions) → ComesTo p line (by_regroup p s)
regroup-comes p line s = by (is_down p.eras.world) (is_some (next_delivery p.eras.world)) (has_space p.eras.world s) where
  by : (down way space : Bool)
      → ComesTo p line
      (if down then refuses p (codes "down") else
      (if way then refuses p (codes "not_drained") else (if space then by_carry p s else refuses p (codes "no_space"))))
  by true way space = idle p p line (codes "down" ++ 10 ∷ []) refl (one-line (codes "down") refl)
  by false true space = idle p p line (codes "not_drained" ++ 10 ∷ []) refl (one-line (codes "not_drained") refl)
  by false false true = carry-comes p line s
  by false false false = idle p p line (codes "no_space" ++ 10 ∷ []) refl (one-line (codes "no_space") refl)

then-comes : (p : EraPlay) (line : List ℕ) (l : Line) → line_meaning (shape_in (Some p)) line ≡ Ok l → ComesTo p line (then_by p l)
then-comes p line Skipped reads = idle p p line [] refl silent
then-comes p line (Group shape) reads = tt
then-comes p line (Ask caller from act) reads = call-comes p line caller (happens.Ask caller (record { moment = p.moment; act = act }) from)
then-comes p line (Collect caller call from) reads = call-comes p line caller (happens.Collect caller call from)
then-comes p line (Deliver from to) reads = event-comes p line (happens.Deliver from to)
then-comes p line (Fail from keep) reads = event-comes p line (happens.Fail from keep)
then-comes p line (Flush from) reads = event-comes p line (happens.Flush from)
then-comes p line (Trace caller call partition from) reads = trace-comes p line caller call (happens.Trace caller call partition from)
then-comes p line Drain reads = drain-comes p line (draining_unless_down p.eras.world) reads
then-comes p line (Show from run) reads =
    idle p p line (look p.eras from (held p.eras.world from run) ++ 10 ∷ []) refl
    (one-line (look p.eras from (held p.eras.world from run))
    (lines.look-other (stamp_in p.eras from) p.eras.world from (held p.eras.world from run)))
then-comes p line Places reads = idle p p line (placed_text p.eras.bases p.eras.world) refl (placed-said p.eras.bases p.eras.world)
then-comes p line (Time moment) reads = idle p (record { eras = p.eras; moment = moment }) line [] refl silent
then-comes p line Stop reads = tt

read-comes : (p : EraPlay) (line : List ℕ) (l : Result Line LineFault) → line_meaning (shape_in (Some p)) line ≡ l → ComesTo p line (next_by (Some p) l)
read-comes p line (Err fault) reads = tt
read-comes p line (Ok l) reads = then-comes p line l reads

regroup-line-comes : (p : EraPlay) (line : List ℕ) (r : Result Dimensions LineFault) → ComesTo p line (regroup_by p r)
regroup-line-comes p line (Err fault) = tt
regroup-line-comes p line (Ok s) = regroup-comes p line s

comes : (p : EraPlay) (line : List ℕ) → ComesTo p line (next_of (Some p) line)
comes p line = by (regroups line) where
  by : (b : Bool)
      → ComesTo p line (if b then regroup_by p (regroup_line p.eras.world.shape.k (split_words line)) else next_by (Some p)
      (line_meaning (shape_in (Some p)) line))
  by true = regroup-line-comes p line (regroup_line p.eras.world.shape.k (split_words line))
  by false = read-comes p line (line_meaning (shape_in (Some p)) line) refl

pub era_lines_tell : EraLinesTell
era_lines_tell p line next moves text is = let come : Comes p line next moves text = subst (ComesTo p line) is (comes p line) in come.tells

-- ---- a whole script

-- what lines write behind a state
record Whole (e : Eras) (moves : List EraMove) (text : List ℕ) : Type 0 where
  pub said : List (List ℕ)
  pub logged : List EraEntry
  pub grows : (all_done e moves).log ≡ e.log ++ logged
  pub tells : TellsLines era_entry_text text logged said

nothing : (e : Eras) → Whole e [] []
nothing e = record { said = []; logged = []; grows = sym (append-nil e.log); tells = tells-none era_entry_text }

-- each line goes on, and prolongs what is written
onward : (p : EraPlay) (line : List ℕ) (next : Option EraPlay) (moves : List EraMove) (text : List ℕ) → Unit {0}
    → next_of (Some p) line ≡ Goes next moves text → Onward (λ q. Unit {0}) (λ q ds us. Whole q.eras ds us) p next moves
    text
onward p line next moves text ready is = record { state = come.play; is = come.is; ready = tt; comes = more } where
  come : Comes p line next moves text
  come = subst (ComesTo p line) is (comes p line)

  more : (ds : List EraMove) (us : List ℕ) → Whole come.play.eras ds us → Whole p.eras (moves ++ ds) (text ++ us)
  more ds us rest = let one = come.tells in record {
    said = one.said ++ rest.said;
    logged = one.logged ++ rest.logged;
    grows = ap (λ (e : Eras). e.log) (done-append p.eras moves ds)
        ∙ ap (λ (e : Eras). (all_done e ds).log) (sym come.to)
        ∙ rest.grows
        ∙ ap (λ (e : Eras). e.log ++ rest.logged) come.to
        ∙ ap (λ (log : List EraEntry). log ++ rest.logged) one.grows
        ∙ append_assoc p.eras.log one.logged rest.logged;
    tells = tells-append era_entry_text text us one.logged rest.logged one.said rest.said one.tells rest.tells;
  }

whole : (p : EraPlay) (lines : List (List ℕ)) → Whole p.eras (turns_of_lines next_of (Some p) lines) (text_in next_of (Some p) lines)
whole p lines = along next_of (λ q. Unit {0}) (λ q ds us. Whole q.eras ds us) (λ q. nothing q.eras) onward p lines tt

pub era_transcripts_tell : EraTranscriptsTell
era_transcripts_tell text ends = record { shape = s; named = ap shape_in begun.named; said = all.said; tells = tells } where
  begun : Begins next_of IsShape eras_from (lines_of text)
  begun = begins next_of BadLine IsShape eras_from line-opens never-ends 1 (lines_of text) ends

  s : Dimensions
  s = begun.start

  all : Whole (first_era (opening s)) (turns_of_lines next_of (Some (eras_from s)) begun.rest) (text_in next_of (Some (eras_from s)) begun.rest)
  all = whole (eras_from s) begun.rest

  tells : TellsLines era_entry_text (transcript text) (all_done (first_era (opening s)) (era_moves_of text)).log all.said
  tells = subst (λ (t : List ℕ). TellsLines era_entry_text t (all_done (first_era (opening s)) (era_moves_of text)).log all.said) (sym begun.text)
      (subst (λ (log : List EraEntry). TellsLines era_entry_text (text_in next_of (Some (eras_from s)) begun.rest) log
      all.said) (sym (ap (λ (ds : List EraMove). (all_done (first_era (opening s)) ds).log) begun.turns ∙ all.grows))
      all.tells)
