-- An era stays a run of its own when an event is made in it.
use Rattle.std.proofs.Common.{ℕ, suc, ◌≡◌, ◌<◌, ◌≤◌, Bool, true, false, List, [], ◌∷◌, ◌++◌, length, map, take, Some}
use Rattle.std.proofs.Common.{if◌then◌else◌, ◌⊎◌, inl, inr, refl, sym, ap, subst, ◌∙◌, arith}
use Rattle.group_eras.proofs.Lists.{get-front, map-more, take-front, take-whole}
use Rattle.std.specs.Prelude.{All, Contains, slice_get}
use Rattle.std.proofs.lemmas.Option.{slice_get_within}
use Rattle.std.proofs.lemmas.Bool.{cases_lt}
use Rattle.std.proofs.lemmas.List.{append_assoc}
use Rattle.std.proofs.lemmas.List.Elements.{Contains-append_right}
use Rattle.group_types.specs.Dimensions.{Dimensions}
use Rattle.group_types.specs.Hash.{home_of}
use Rattle.group_types.specs.Lists.{at}
use Rattle.group_types.specs.declared.process.ProcessId.{ProcessId}
use Rattle.memc_table.specs.Act.{act_value, key_of}
use Rattle.memc_table.specs.Asked.{Asked}
use Rattle.memc_table.specs.Contents.{empty_table}
use Rattle.memc_table.specs.declared.act.Act.{Act}
use Rattle.memc_table.specs.declared.act.Act.TheVariants.{Add, Append, Cas, Decr, Delete, Get, Incr, Prepend, Replace, Set, Touch}
use Rattle.group_calls.specs.Log.{IsLegal}
use Rattle.group_calls.specs.Turns.{CallName, Turn, accepts, asks_of, name_of}
use Rattle.group_calls.specs.Within.{AnswersWithin, IsAsk}
use Rattle.group_calls.specs.declared.entry.Entry.{Entry}
use Rattle.group_calls.specs.declared.event.Event.{Event}
use Rattle.group_calls.specs.declared.event.Event.TheVariants.{Ask, Collect, Deliver, Fail, Flush, Trace}
use Rattle.group_run.specs.Headline.{Headline, IsRun, MayCome}
use Rattle.group_run.specs.World.{AskedCall, World, after, call_of, next_name, opening, same_call, step, turns_of}
use Rattle.law_moves.proofs.Reading.{grown-is, some-same}
use Rattle.law_log.specs.Book.{no_book}
use Rattle.law_log.proofs.Books.{book-turns, book-world}
use Rattle.law_log.proofs.Entries.{call-ne, call-refl}
use Rattle.law_log.proofs.Turnings.{asks_counted, get-last}
use Rattle.law_headline.proofs.Headlines.{headline_always}
use Rattle.law_answers.proofs.Entries.{after-more, run-more, turns-more}
use Rattle.group_eras.specs.Eras.{EraEntry, Eras, era_step, logged_in_era}
use Rattle.group_run.specs.Causes.{asks_among}
use Rattle.group_eras.specs.Promise.{AreTold, IsAskOf, IsEra, TellsEntry}
use Rattle.group_eras.specs.Told.{Bases, based_reply, event_in, op_for_era, op_out, told_entry, told_op, with_base, with_cas, without_base}
use Rattle.group_eras.proofs.Asking.{WasAsked, among-all, among-before, among-in, among-map, turn-event, turns-asks, turns-long, was-asked}
use Rattle.group_eras.proofs.Joins.{key-cas}
use Rattle.group_eras.proofs.Logging.{AllHaveCas, BringsCas, accepted-brings, own-or-accepted}

-- how often a caller asked in a run
pub asked-among : (s : Dimensions) (es : List Event) → IsRun s es → (caller : ℕ) → at 0 (after s es).asked caller ≡ asks_among caller es
asked-among s es run caller =
    ap (λ (w : World). at 0 w.asked caller) (sym (book-world s es)) ∙ sym (asks_counted s es run caller)
    ∙ ap (asks_of caller) (book-turns (no_book s) es) ∙ among-all caller (opening s) es

-- an event comes in as it is asked, but for its cas number
value-cas : (f : ℕ → ℕ) (act : Act) → act_value (with_cas f act) ≡ act_value act
value-cas f (Get key) = refl
value-cas f (Set key flags expiry value) = refl
value-cas f (Add key flags expiry value) = refl
value-cas f (Replace key flags expiry value) = refl
value-cas f (Cas key flags expiry cas value) = refl
value-cas f (Delete key) = refl
value-cas f (Touch key expiry) = refl
value-cas f (Append key value) = refl
value-cas f (Prepend key value) = refl
value-cas f (Incr key by) = refl
value-cas f (Decr key by) = refl

pub may-in : (bases : Bases) (k : ℕ) (w : World) (e : Event) → MayCome w e → MayCome w (event_in bases k e)
may-in bases k w (Ask caller op p) may = (
  may.0,
  may.1,
  subst (λ (v : List ℕ). All (λ b. b < 256) v)
      (sym (value-cas (without_base bases (home_of (key_of op.act) k)) op.act)) may.2,
)
may-in bases k w (Collect caller call p) may = may
may-in bases k w (Deliver from to) may = may
may-in bases k w (Fail p keep) may = may
may-in bases k w (Flush p) may = may
may-in bases k w (Trace caller call d p) may = may

-- a cas number that came in above 0 goes out as it was
cas-back : (bases : Bases) (d : ℕ) (act : Act) → BringsCas (with_cas (without_base bases d) act)
    → with_cas (with_base bases d) (with_cas (without_base bases d) act) ≡ act
cas-back bases d (Get key) some = refl
cas-back bases d (Set key flags expiry value) some = refl
cas-back bases d (Add key flags expiry value) some = refl
cas-back bases d (Replace key flags expiry value) some = refl
cas-back bases d (Cas key flags expiry cas value) some = ap (λ (n : ℕ). Cas key flags expiry n value) (omega (arith, some))
cas-back bases d (Delete key) some = refl
cas-back bases d (Touch key expiry) some = refl
cas-back bases d (Append key value) some = refl
cas-back bases d (Prepend key value) some = refl
cas-back bases d (Incr key by) some = refl
cas-back bases d (Decr key by) some = refl

op-back : (bases : Bases) (k : ℕ) (op : Asked) → BringsCas (op_for_era bases k op).act → op_out bases k (op_for_era bases k op) ≡ op
op-back bases k op some =
    ap (λ (d : ℕ). record { moment = op.moment; act = with_cas (with_base bases d) (op_for_era bases k op).act })
    (ap (λ (key : List ℕ). home_of key k) (key-cas (without_base bases (home_of (key_of op.act) k)) op.act))
    ∙ ap (λ (act : Act). record { moment = op.moment; act = act }) (cas-back bases (home_of (key_of op.act) k) op.act some)

-- more asks
ask-later : (asked more : List Event) (name : CallName) (op : Asked) → IsAskOf asked name op → IsAskOf (asked ++ more) name op
ask-later asked more name op ask =
    let low : ask.place < length asked = slice_get_within asked ask.place (Ask name.caller op ask.at) ask.there in
    record {
      place = ask.place;
      at = ask.at;
      there = get-front asked more ask.place low ∙ ask.there;
      counted = ap (asks_among name.caller) (take-front asked more ask.place (omega (arith, low))) ∙ ask.counted;
    }

pub told-later : (bases : Bases) (k : ℕ) (asked more : List Event) (era : ℕ) (xs : List Entry) (ys : List EraEntry)
    → AreTold bases k asked era xs ys → AreTold bases k (asked ++ more) era xs ys
told-later bases k asked more era [] [] told = tt
told-later bases k asked more era [] (y ∷ ys) told = told
told-later bases k asked more era (x ∷ xs) [] told = told
told-later bases k asked more era (x ∷ xs) (y ∷ ys) told =
    let one : TellsEntry bases k asked x y.1 = told.1 in (
      told.0,
      record {
        name = one.name;
        was_asked = ask-later asked more (name_of y.1) y.1.op one.was_asked;
        op = one.op;
        reply = one.reply;
      },
      told-later bases k asked more era xs ys told.2,
    )

pub told-append : (bases : Bases) (k : ℕ) (asked : List Event) (era : ℕ) (xs us : List Entry) (ys vs : List EraEntry)
    → AreTold bases k asked era xs ys → AreTold bases k asked era us vs
    → AreTold bases k asked era (xs ++ us) (ys ++ vs)
told-append bases k asked era [] us [] vs told more = more
told-append bases k asked era [] us (y ∷ ys) vs told more = absurd told
told-append bases k asked era (x ∷ xs) us [] vs told more = absurd told
told-append bases k asked era (x ∷ xs) us (y ∷ ys) vs told more = (told.0, told.1, told-append bases k asked era xs us ys vs told.2 more)

no-items : (k : ℕ) → AllHaveCas (empty_table k)
no-items k key = tt

module _ (e : Eras) (era : IsEra e) (event : Event) (may : MayCome e.world event) where
  abbrev pub s : Dimensions
  s = e.world.shape

  abbrev k : ℕ
  k = e.world.shape.k

  abbrev pub came : Event
  came = event_in e.bases e.world.shape.k event

  abbrev pub events : List Event
  events = era.events ++ came ∷ []

  abbrev pub asked : List Event
  asked = era.asked ++ event ∷ []

  abbrev pub logged : List Entry
  logged = (step e.world came).turn.logged

  changed : events ≡ map (event_in e.bases k) asked
  changed = ap (λ (xs : List Event). xs ++ came ∷ []) era.changed ∙ sym (map-more (event_in e.bases k) era.asked event)

  may-come : MayCome e.world came
  may-come = may-in e.bases k e.world event may

  pub run : IsRun s events
  run = (era.run.0, run-more (opening s) era.events came era.run.1 (subst (λ (w : World). MayCome w came) era.stands may-come))

  stands : (step e.world came).world ≡ after s events
  stands = ap (λ (w : World). (step w came).world) era.stands ∙ sym (after-more (opening s) era.events came)

  pub headline : Headline s events
  headline = headline_always s events run

  long : length era.events ≡ length era.asked
  long = ap length era.changed ∙ map-long era.asked where
    map-long : (xs : List Event) → length (map (event_in e.bases k) xs) ≡ length xs
    map-long [] = refl
    map-long (x ∷ xs) = ap suc (map-long xs)

  -- the event's turn
  pub last-turn : slice_get (turns_of s events) (length era.events) ≡ Some (step e.world came).turn
  last-turn =
      ap (λ (turns : List Turn). slice_get turns (length era.events)) (turns-more (opening s) era.events came)
      ∙ ap (slice_get (turns_of s era.events ++ (step (after s era.events) came).turn ∷ [])) (sym (turns-long (opening s) era.events))
      ∙ get-last (turns_of s era.events) (step (after s era.events) came).turn
      ∙ ap (λ (w : World). Some (step w came).turn) (sym era.stands)

  counted-all : (caller : ℕ) → at 0 e.world.asked caller ≡ asks_among caller era.asked
  counted-all caller =
      ap (λ (w : World). at 0 w.asked caller) era.stands ∙ asked-among s era.events era.run caller
      ∙ ap (asks_among caller) era.changed ∙ among-map e.bases k caller era.asked

  module _ (entry : Entry) (logs : Contains logged entry) where
    abbrev name : CallName
    name = name_of entry

    -- the ask of an entry that the event logs
    pub record Found : Type 0 where
      pub place : ℕ
      pub at : ProcessId
      pub low : place ≤ length era.asked
      pub op : Asked
      pub there : slice_get asked place ≡ Some (Ask entry.caller op at)
      pub came_in : entry.op ≡ op_for_era e.bases k op
      pub counted : asks_among entry.caller (take place asked) ≡ entry.call

    found : Found
    found =
        let within : AnswersWithin s.k (turns_of s events) = headline.one_log.within in
        let got = within.asked (length era.events) (step e.world came).turn entry last-turn logs in
        let j : ℕ = got.0 in
        let turn : Turn = got.1 in
        let ask : IsAsk (turns_of s events) j turn name entry.op = got.3 in
        let at-events : slice_get events j ≡ Some (Ask entry.caller entry.op ask.at) = turn-event (opening s) events j turn ask.there ∙ ap Some ask.event in
        let was : WasAsked e.bases k asked j entry.caller entry.op ask.at = was-asked e.bases k asked j entry.caller
        entry.op ask.at (ap (λ (xs : List Event). slice_get xs j) (sym changed) ∙ at-events) in
        let few : j ≤ length era.events = got.2 in
        record {
          place = j;
          at = ask.at;
          low = omega (arith, few, long);
          op = was.asked;
          there = was.there;
          came_in = was.changed;
          counted = sym (among-in e.bases k entry.caller j asked) ∙ ap (λ (xs : List Event). asks_among entry.caller (take j xs)) (sym changed)
              ∙ sym (turns-asks entry.caller j (opening s) events) ∙ ask.place;
        }

    -- one that isn't of the event itself was accepted
    brings-cas : accepts entry.reply ≡ true → BringsCas entry.op.act
    brings-cas accepted =
        accepted-brings (empty_table k) (after s events).log entry (no-items k) headline.one_log.legal
        (subst (λ (w : World). Contains w.log entry) stands
        (subst (λ (xs : List Entry). Contains xs entry) (sym (grown-is e.world.log logged))
        (Contains-append_right e.world.log logged entry logs))) accepted

    earlier : (f : Found) → f.place < length era.asked → op_out e.bases k entry.op ≡ f.op
    earlier f low = by (own-or-accepted e.world came entry logs) where
      front : slice_get era.asked f.place ≡ Some (Ask entry.caller f.op f.at)
      front = sym (get-front era.asked (event ∷ []) f.place low) ∙ f.there

      fewer : entry.call < at 0 e.world.asked entry.caller
      fewer =
          let before = among-before entry.caller f.place era.asked f.op f.at front in
          let same : asks_among entry.caller (take f.place era.asked) ≡ entry.call =
          ap (asks_among entry.caller) (sym (take-front era.asked (event ∷ []) f.place (omega (arith, low))))
          ∙ f.counted in
          let all = counted-all entry.caller in
          omega (arith, before, same, all)

      not-own : (o : Event) → (c : AskedCall) → call_of e.world o ≡ Some c → name_of entry ≡ c.name → ⊥
      not-own (Ask who op p) c is same =
          let call : record { name = next_name e.world who; op = op } ≡ c = some-same (record { name = next_name e.world who; op = op }) c is in
          let one : entry.caller ≡ who = ap (λ (n : CallName). n.caller) (same ∙ ap (λ (x : AskedCall). x.name) (sym call)) in
          let two : entry.call ≡ at 0 e.world.asked who = ap (λ (n : CallName). n.call) (same ∙ ap (λ (x : AskedCall). x.name) (sym call)) in
          let three : at 0 e.world.asked entry.caller ≡ at 0 e.world.asked who = ap (at 0 e.world.asked) one in
          omega (arith, fewer, two, three)
      not-own (Collect who call p) c is same = absurd (cc is)
      not-own (Deliver from to) c is same = absurd (cc is)
      not-own (Fail p keep) c is same = absurd (cc is)
      not-own (Flush p) c is same = absurd (cc is)
      not-own (Trace who call d p) c is same = absurd (cc is)

      by : ((c : AskedCall) × (call_of e.world came ≡ Some c) × (name_of entry ≡ c.name)) ⊎ (accepts entry.reply ≡ true) → op_out e.bases k entry.op ≡ f.op
      by (inl own) = absurd (not-own came own.0 own.1 own.2)
      by (inr accepted) = ap (op_out e.bases k) f.came_in ∙ op-back e.bases k f.op (subst (λ (x : Asked). BringsCas x.act) f.came_in (brings-cas accepted))

    told-is : (f : Found) → (f.place < length era.asked) ⊎ (length era.asked ≤ f.place) → told_op e.bases k (call_of e.world event) entry ≡ f.op
    told-is f (inl low) = by event refl (earlier f low) where
      name-apart : (who : ℕ) → same_call (next_name e.world who) name ≡ false
      name-apart who = call-ne (next_name e.world who) name (λ same.
          let front : slice_get era.asked f.place ≡ Some (Ask entry.caller f.op f.at) = sym (get-front era.asked (event ∷ []) f.place low) ∙ f.there in
          let before = among-before entry.caller f.place era.asked f.op f.at front in
          let was : asks_among entry.caller (take f.place era.asked) ≡ entry.call =
          ap (asks_among entry.caller) (sym (take-front era.asked (event ∷ []) f.place (omega (arith, low))))
          ∙ f.counted in
          let all = counted-all entry.caller in
          let one : who ≡ entry.caller = ap (λ (n : CallName). n.caller) same in
          let two : at 0 e.world.asked who ≡ entry.call = ap (λ (n : CallName). n.call) same in
          let three : at 0 e.world.asked who ≡ at 0 e.world.asked entry.caller = ap (at 0 e.world.asked) one in
          omega (arith, before, was, all, two, three))

      by : (x : Event) → event ≡ x → op_out e.bases k entry.op ≡ f.op → told_op e.bases k (call_of e.world x) entry ≡ f.op
      by (Ask who op p) is back = ap (λ (b : Bool). if b then op else op_out e.bases k entry.op) (name-apart who) ∙ back
      by (Collect who call p) is back = back
      by (Deliver from to) is back = back
      by (Fail p keep) is back = back
      by (Flush p) is back = back
      by (Trace who call d p) is back = back
    told-is f (inr high) = ap (λ (x : Event). told_op e.bases k (call_of e.world x) entry) here
        ∙ ap (λ (b : Bool). if b then f.op else op_out e.bases k entry.op) own where
          place : f.place ≡ length era.asked
          place = let low = f.low in omega (arith, low, high)

          here : event ≡ Ask entry.caller f.op f.at
          here = some-same event (Ask entry.caller f.op f.at) (sym (get-last era.asked event) ∙ ap (slice_get asked) (sym place) ∙ f.there)

          call-is : at 0 e.world.asked entry.caller ≡ entry.call
          call-is = counted-all entry.caller ∙ ap (asks_among entry.caller) (sym (take-whole era.asked (length era.asked) (omega arith)))
              ∙ ap (asks_among entry.caller) (sym (take-front era.asked (event ∷ []) (length era.asked) (omega arith)))
              ∙ ap (λ (n : ℕ). asks_among entry.caller (take n asked)) (sym place) ∙ f.counted

          own : same_call (next_name e.world entry.caller) name ≡ true
          own = ap (λ (n : ℕ). same_call (record { caller = entry.caller; call = n }) name) call-is ∙ call-refl name

    pub is-told : TellsEntry e.bases k asked entry (told_entry e.bases k (call_of e.world event) entry)
    is-told =
        let f : Found = found in
        let is : told_op e.bases k (call_of e.world event) entry ≡ f.op = told-is f (cases_lt f.place (length era.asked)) in
        record {
          name = refl;
          was_asked = subst (IsAskOf asked name) (sym is) (record { place = f.place; at = f.at; there = f.there; counted = f.counted });
          op = f.came_in ∙ ap (op_for_era e.bases k) (sym is);
          reply = ap (λ (key : List ℕ). based_reply e.bases (home_of key k) entry.reply)
              (ap (λ (x : Asked). key_of x.act) (f.came_in ∙ ap (op_for_era e.bases k) (sym is))
              ∙ key-cas (without_base e.bases (home_of (key_of (told_op e.bases k (call_of e.world event) entry).act)
              k)) (told_op e.bases k (call_of e.world event) entry).act);
        }

  all-told : (entries : List Entry) → ((entry : Entry) → Contains entries entry → Contains logged entry)
      → AreTold e.bases k asked e.era entries (logged_in_era e event entries)
  all-told [] within = tt
  all-told (x ∷ xs) within = (
    refl,
    is-told x (within x (0, omega arith, refl)),
    all-told xs (λ entry there. within entry (suc there.0, (let low = there.1 in omega (arith, low)), there.2)),
  )

  pub logged-told : AreTold e.bases k asked e.era logged (logged_in_era e event logged)
  logged-told = all-told logged (λ entry there. there)

  pub log-after : (step e.world came).world.log ≡ e.world.log ++ logged
  log-after = grown-is e.world.log logged

  pub legal-after : IsLegal k (e.world.log ++ logged)
  legal-after = subst (IsLegal k) (log-after) (subst (λ (w : World). IsLegal k w.log) (sym stands) headline.one_log.legal)

  -- so it is an era after it
  pub era-next : IsEra (era_step e event).eras
  era-next = record {
    asked = asked;
    events = events;
    changed = changed;
    run = run;
    stands = stands;
    headline = headline;
    before = era.before;
    own = era.own ++ logged_in_era e event logged;
    log = ap (λ (xs : List EraEntry). xs ++ logged_in_era e event logged) era.log ∙ append_assoc era.before era.own (logged_in_era e event logged);
    earlier = era.earlier;
    told = subst (λ (xs : List Entry). AreTold e.bases k asked e.era xs (era.own ++ logged_in_era e event logged)) (sym (grown-is e.world.log logged))
        (told-append e.bases k asked e.era e.world.log logged era.own (logged_in_era e event logged)
        (told-later e.bases k era.asked (event ∷ []) e.era e.world.log era.own era.told)
        logged-told);
  }
