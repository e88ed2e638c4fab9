-- How a script ends, from how it was read and how it was played.
use Rattle.std.proofs.Common.{◌≡◌, ℕ, ◌<◌, ◌≤◌, ◌⊎◌, inl, inr, Bool, true, false, if◌then◌else◌, nat_lt, List, []}
use Rattle.std.proofs.Common.{length, take, Result, Ok, Err, refl, sym, ◌∙◌, subst, arith}
use Rattle.std.proofs.Math.Seq.{take-length}
use Rattle.std.proofs.lemmas.Bool.Decides.{nat_tests}
use Rattle.edge_io.specs.Faults.{Rose}
use Rattle.edge_io.specs.Moving.{Appends, Input, IsEnded, Takes}
use Rattle.edge_io.specs.Writing.{HasWritten, HasWrittenPart}
use Rattle.edge_io.proofs.Moving.{Appends-nil, Appends-trans}
use Rattle.scenario_play.specs.Ends.{HasPlayedScript, HasReadInput, HasTreatedScript}
use Rattle.scenario_play.specs.Language.{Language, status_told}
use Rattle.scenario_play.specs.Outside.{EndsWith, Outside, StopsWithin, TellsFront}
use Rattle.scenario_play.specs.Part.{IsPlayedInPart}
use Rattle.scenario_play.specs.Played.{IsPlayed, IsTextWritten}
use Rattle.scenario_play.specs.Player.{HasPlayed}
use Rattle.scenario_play.specs.Status.{HasFaultOf, IsEarly, IsStatusTold, IsUnread, TellsOfLine, TellsOfScript, last_line, longest_script}
use Rattle.scenario_play.specs.declared.status.Status.{Status}
use Rattle.scenario_play.specs.declared.status.Status.TheVariants.{Done, BadWords, BadLine, BadShape, BadCount, TooLong}
use Rattle.scenario_play.specs.declared.status.Status.TheVariants.{ReadFault, WriteFault, Want}

short : (n : ℕ) → n ≤ longest_script → nat_lt longest_script n ≡ false
short n within = grind (arith, nat_tests)

long : (n : ℕ) → longest_script < n → nat_lt longest_script n ≡ true
long n above = grind (arith, nat_tests)

pub told-short : (l : Language) (text : List ℕ) → length text ≤ longest_script → status_told l text ≡ l.verdict text
told-short l text within = rw (short (length text) within) refl

pub told-long : (l : Language) (text : List ℕ) → longest_script < length text → status_told l text ≡ TooLong
told-long l text above = rw (long (length text) above) refl

-- a text of one byte more than a script may have
long-told : (l : Language) (text : List ℕ) → length text ≡ 16777217 → status_told l text ≡ TooLong
long-told l text all = told-long l text (omega (arith, all))

-- fronts of a text
pub nothing-written : (before now : List ℕ) (text : List ℕ) → now ≡ before → HasWritten before now text
nothing-written before now text same = record { count = 0; bytes = subst (λ (o : List ℕ). Appends before o []) (sym same) (Appends-nil before) }

pub all-written : (before now : List ℕ) (text : List ℕ) → Appends before now text → HasWritten before now text
all-written before now text bytes = record { count = length text; bytes = subst (Appends before now) (sym (take-length text)) bytes }

pub nothing-told : (held : List ℕ) (status : Status) → TellsFront held held status
nothing-told held status = record { said = status; whose = inl refl; written = nothing-written held held (last_line status) refl }

pub in-part : (transcript : List ℕ → List ℕ) (script before now : List ℕ) → IsPlayedInPart transcript script before now
    → HasWritten before now (transcript script)
in-part transcript script before now (inl left) = left.written script left.rest left.cut
in-part transcript script before now (inr part) = record { count = part.count; bytes = part.bytes }

-- what was read to its end and then played
module _ (l : Language) (a b : Outside) (text : List ℕ) (within : length text ≤ longest_script)
    (taken : Takes a.input b.input text) (met : IsEnded b.input) where
  treated : (result : Result (Unit {0}) Status) → HasPlayedScript l text a b result → HasTreatedScript l a b result
  treated result ends = record { script = text; taken = taken; few = omega (arith, within); ends = ends }

  abbrev Played : Result (Unit {0}) Status → Type 0
  Played result = HasPlayed a.held b.held a.writes b.writes l.transcript text (l.verdict text) result

  pub treated-done : (done : Unit {0}) → Played (Ok done) → HasTreatedScript l a b (Ok done)
  treated-done done played = treated (Ok done) (told-short l text within ∙ played.0, met, played.1)

  fault : (status : Status) → Played (Err status) → HasPlayedScript l text a b (Err status)
  fault (BadLine n) played = (played.0, told-short l text within ∙ played.1, met, played.2)
  fault (BadShape f) played = (played.0, told-short l text within ∙ played.1, met, played.2)
  fault (BadCount c) played = (played.0, told-short l text within ∙ played.1, met, played.2)
  fault WriteFault played = (played.0, within, met, played.1)
  fault Want played = inr (met, played)
  fault status played = absurd played.0

  pub treated-fault : (status : Status) → Played (Err status) → HasTreatedScript l a b (Err status)
  treated-fault status played = treated (Err status) (fault status played)

-- what was not read to its end
module _ (l : Language) (a b : Outside) (same : b.held ≡ a.held) where
  pub treated-unread : (status : Status) → HasReadInput a.input b.input a.reads b.reads (Err status) → HasTreatedScript l a b (Err status)
  treated-unread TooLong read = record {
    script = read.bytes;
    taken = read.taken;
    few = let exact = read.exact in
        omega (arith, exact);
    ends = (same, read.exact);
  }
  treated-unread ReadFault read = record {
    script = read.1.bytes;
    taken = read.1.taken;
    few = let few = read.1.few in
        omega (arith, few);
    ends = (same, read.0, read.1.few);
  }
  treated-unread Want read = record { script = read.bytes; taken = read.taken; few = read.few; ends = inl same }
  treated-unread status read = absurd read

-- who counted a fault
pub read-fault : (input now : Input) (read_before read_now writes : ℕ) (status : Status)
    → HasReadInput input now read_before read_now (Err status) → HasFaultOf read_before read_now writes writes status
read-fault input now read_before read_now writes ReadFault read = read.0
read-fault input now read_before read_now writes WriteFault read = absurd read
read-fault input now read_before read_now writes BadWords read = absurd read
read-fault input now read_before read_now writes status read = tt

pub play-fault : (held held_now : List ℕ) (read_before read_now written_before written_now : ℕ)
    (transcript : List ℕ → List ℕ) (text : List ℕ) (verdict status : Status)
    → HasPlayed held held_now written_before written_now transcript text verdict (Err status)
    → HasFaultOf read_before read_now written_before written_now status
play-fault held held_now read_before read_now written_before written_now transcript text verdict WriteFault played = played.0
play-fault held held_now read_before read_now written_before written_now transcript text verdict ReadFault played = absurd played.0
play-fault held held_now read_before read_now written_before written_now transcript text verdict BadWords played = absurd played.0
play-fault held held_now read_before read_now written_before written_now transcript text verdict status played = tt

-- a status that was told is the one at the end, unless there was no memory
pub came_from : (s status other : Status) → (status ≡ s) ⊎ (status ≡ Want) → status ≡ other → (other ≡ Want → ⊥) → s ≡ other
came_from s status other (inl is) now differs = sym is ∙ now
came_from s status other (inr want) now differs = absurd (differs (sym now ∙ want))

pub fault-told : (r r' w w' : ℕ) (s status other : Status) → HasFaultOf r r' w w' s → (status ≡ s) ⊎ (status ≡ Want)
    → status ≡ other → (other ≡ Want → ⊥) → HasFaultOf r r' w w' other
fault-told r r' w w' s status other fault is now differs = subst (HasFaultOf r r' w w') (came_from s status other is now differs) fault

-- a script of which all is done is not too long
whole : (l : Language) (text : List ℕ) → status_told l text ≡ Done → l.verdict text ≡ Done
whole l text is = by (nat_lt longest_script (length text)) is where
  by : (b : Bool) → (if b then TooLong else l.verdict text) ≡ Done → l.verdict text ≡ Done
  by true is = absurd (cc is)
  by false is = is

pub played-done : (l : Language) → ((text : List ℕ) → l.verdict text ≡ Done → l.Promise text)
    → (a b : Outside) (done : Unit {0}) → HasTreatedScript l a b (Ok done) → IsPlayed l a b Done
played-done l keeps a b done end = record {
  script = end.script;
  taken = end.taken;
  told = inl (sym end.ends.0);
  wanted = λ is. absurd (cc is);
  most = end.few;
  too_long = λ is. absurd (cc is);
  long = λ all. absurd (cc (sym end.ends.0 ∙ long-told l end.script all));
  done_ended = λ is. end.ends.1;
  done_bytes = λ is. end.ends.2;
  promises = λ is. keeps end.script (whole l end.script end.ends.0);
  refused_bytes = λ refusal. absurd refusal;
  unread_bytes = λ unread. absurd unread;
  bytes = inl (
    end.ends.1,
    record {
      middle = b.held;
      written = all-written a.held b.held (l.transcript end.script) end.ends.2;
      told = nothing-told b.held Done;
    },
  );
}

-- a last line was written behind a text
behind : (before middle now : List ℕ) (faults_before faults_middle faults_now : ℕ) (text line : List ℕ)
    → Appends before middle text → faults_before ≤ faults_middle
    → EndsWith middle now faults_middle faults_now [] line → EndsWith before now faults_before faults_now text line
behind before middle now faults_before faults_middle faults_now text line wrote later ends = record {
  count = ends.count;
  bytes = Appends-trans before middle now text (take ends.count line) wrote ends.bytes;
  whole = rose_more ends.whole;
}
  where
    rose_more : (length line ≤ ends.count) ⊎ Rose faults_middle faults_now → (length line ≤ ends.count) ⊎ Rose faults_before faults_now
    rose_more (inl whole) = inl whole
    rose_more (inr rose) = inr (omega (arith, rose))

-- after the last line was told
module _ (l : Language) (script : List ℕ) (a b c : Outside) (kept : c.input ≡ b.input) (reads : c.reads ≡ b.reads)
    (later : a.writes ≤ b.writes) (more : b.writes ≤ c.writes) where
  is-told : (s : Status) → HasPlayedScript l script a b (Err s) → IsStatusTold (status_told l script) a.reads c.reads a.writes c.writes s
  is-told (BadLine n) end = inl (sym end.1)
  is-told (BadShape f) end = inl (sym end.1)
  is-told (BadCount n) end = inl (sym end.1)
  is-told TooLong end = inl (sym (told-long l script (let all = end.1 in omega (arith, all))))
  is-told Want end = inr (inl refl)
  is-told ReadFault end = let rose : Rose a.reads b.reads = end.1 in inr (inr (inl (refl, omega (arith, rose, reads))))
  is-told WriteFault end = let rose : Rose a.writes b.writes = end.0 in inr (inr (inr (refl, omega (arith, rose, more))))
  is-told s end = absurd end.0

  -- one byte more than a script may have was taken
  is-long : (s : Status) → HasPlayedScript l script a b (Err s) → length script ≡ 16777217 → (s ≡ TooLong) ⊎ (s ≡ Want)
  is-long TooLong end all = inl refl
  is-long Want end all = inr refl
  is-long (BadLine n) end all = absurd (cc (sym end.1 ∙ long-told l script all))
  is-long (BadShape f) end all = absurd (cc (sym end.1 ∙ long-told l script all))
  is-long (BadCount n) end all = absurd (cc (sym end.1 ∙ long-told l script all))
  is-long ReadFault end all = let short = end.2 in absurd (omega (arith, short, all))
  is-long WriteFault end all = let short = end.1 in absurd (omega (arith, short, all))
  is-long s end all = absurd end.0

  -- what stands in the sink: behind the transcript of a script that was read to its end, or of no line
  abbrev Stops : Status → Type 0
  Stops status = (IsEnded c.input × StopsWithin a.held c.held (l.transcript script) status) ⊎ (IsEarly status × TellsFront a.held c.held status)

  within-all : (status : Status) → IsEnded b.input → HasWritten a.held b.held (l.transcript script) → TellsFront b.held c.held status → Stops status
  within-all status met written front = inl (subst IsEnded (sym kept) met, record { middle = b.held; written = written; told = front })

  alone-told : (status : Status) → IsEarly status → b.held ≡ a.held → TellsFront b.held c.held status → Stops status
  alone-told status early same front = inr (early, subst (λ (h : List ℕ). TellsFront h c.held status) same front)

  stops : (s status : Status) → (IsEarly s → IsEarly status) → HasPlayedScript l script a b (Err s) → TellsFront b.held c.held status → Stops status
  stops (BadLine n) status early end front = within-all status end.2 (all-written a.held b.held (l.transcript script) end.3) front
  stops (BadShape f) status early end front = within-all status end.2 (all-written a.held b.held (l.transcript script) end.3) front
  stops (BadCount n) status early end front = within-all status end.2 (all-written a.held b.held (l.transcript script) end.3) front
  stops WriteFault status early end front = within-all status end.2 end.3 front
  stops Want status early (inl same) front = alone-told status (early tt) same front
  stops Want status early (inr wrote) front = within-all status wrote.0 (in-part l.transcript script a.held b.held wrote.1) front
  stops TooLong status early end front = alone-told status (early tt) end.0 front
  stops ReadFault status early end front = alone-told status (early tt) end.0 front
  stops s status early end front = absurd end.0

  abbrev Tells : Status → Type 0
  Tells s = EndsWith b.held c.held b.writes c.writes [] (last_line s)

  refused : (s : Status) → HasPlayedScript l script a b (Err s) → TellsOfLine s → Tells s
      → EndsWith a.held c.held a.writes c.writes (l.transcript script) (last_line s)
  refused (BadLine n) end refusal tells = behind a.held b.held c.held a.writes b.writes c.writes (l.transcript script) (last_line (BadLine n)) end.3 later tells
  refused (BadShape f) end refusal tells = behind a.held b.held c.held a.writes b.writes c.writes (l.transcript script)
      (last_line (BadShape f)) end.3 later tells
  refused (BadCount n) end refusal tells = behind a.held b.held c.held a.writes b.writes c.writes (l.transcript script)
      (last_line (BadCount n)) end.3 later tells
  refused status end refusal tells = absurd refusal

  alone : (s : Status) → b.held ≡ a.held → Tells s → EndsWith a.held c.held a.writes c.writes [] (last_line s)
  alone s same tells = behind a.held b.held c.held a.writes b.writes c.writes [] (last_line s)
      (subst (λ (o : List ℕ). Appends a.held o []) (sym same) (Appends-nil a.held)) later tells

  unread-told : (s : Status) → HasPlayedScript l script a b (Err s) → IsUnread s → Tells s → EndsWith a.held c.held a.writes c.writes [] (last_line s)
  unread-told TooLong end unread tells = alone TooLong end.0 tells
  unread-told ReadFault end unread tells = alone ReadFault end.0 tells
  unread-told status end unread tells = absurd unread

  not-done : (s : Status) → HasPlayedScript l script a b (Err s) → s ≡ Done → ⊥
  not-done s end is = (subst (λ (x : Status). HasPlayedScript l script a b (Err x)) is end).0

  too-long : (s : Status) → HasPlayedScript l script a b (Err s) → s ≡ TooLong → length script ≡ 16777217
  too-long s end is = (subst (λ (x : Status). HasPlayedScript l script a b (Err x)) is end).1

  -- where all of the script is done there was no memory before its end
  within : (s : Status) → HasPlayedScript l script a b (Err s) → (last_line s ≡ [] → Want ≡ s) → status_told l script ≡ Done
      → (b.held ≡ a.held) ⊎ IsPlayedInPart l.transcript script a.held b.held
  within (BadLine n) end silent done = absurd (cc (sym done ∙ end.1))
  within (BadShape f) end silent done = absurd (cc (sym done ∙ end.1))
  within (BadCount n) end silent done = absurd (cc (sym done ∙ end.1))
  within TooLong end silent done = inl end.0
  within ReadFault end silent done = inl end.0
  within WriteFault end silent done = absurd (cc (silent refl))
  within Want (inl same) silent done = inl same
  within Want (inr wrote) silent done = inr wrote.1
  within s end silent done = absurd end.0

  -- the status was told as it is
  same-told : (s : Status) → Takes a.input b.input script → length script ≤ 16777217
      → HasPlayedScript l script a b (Err s) → (s ≡ Want) ⊎ Tells s → TellsFront b.held c.held s → IsPlayed l a c s
  same-told s taken few end tells front = record {
    script = script;
    taken = subst (λ (i : Input). Takes a.input i script) (sym kept) taken;
    told = is-told s end;
    wanted = λ is done. record { middle = b.held; unfinished = within s end (λ none. sym is) done; told = subst (TellsFront b.held c.held) is front };
    most = few;
    too_long = too-long s end;
    long = is-long s end;
    done_ended = λ is. absurd (not-done s end is);
    done_bytes = λ is. absurd (not-done s end is);
    promises = λ is. absurd (not-done s end is);
    refused_bytes = λ refusal. refused s end refusal (surely s tells (λ is. subst TellsOfLine is refusal));
    unread_bytes = λ unread. unread-told s end unread (surely s tells (λ is. subst IsUnread is unread));
    bytes = stops s s (λ early. early) end front;
  }
    where
      surely : (x : Status) → (x ≡ Want) ⊎ Tells x → (x ≡ Want → ⊥) → Tells x
      surely x (inl want) never = absurd (never want)
      surely x (inr tells) never = tells

  -- there was no memory to tell it
  want-told : (s : Status) → Takes a.input b.input script → length script ≤ 16777217
      → HasPlayedScript l script a b (Err s) → (last_line s ≡ [] → Want ≡ s) → TellsFront b.held c.held Want
      → IsPlayed l a c Want
  want-told s taken few end silent front = record {
    script = script;
    taken = subst (λ (i : Input). Takes a.input i script) (sym kept) taken;
    told = inr (inl refl);
    wanted = λ is done. record { middle = b.held; unfinished = within s end silent done; told = front };
    most = few;
    too_long = λ is. absurd (cc is);
    long = λ all. inr refl;
    done_ended = λ is. absurd (cc is);
    done_bytes = λ is. absurd (cc is);
    promises = λ is. absurd (cc is);
    refused_bytes = λ refusal. absurd refusal;
    unread_bytes = λ unread. absurd unread;
    bytes = stops s Want (λ early. tt) end front;
  }

  pub played-told : (s status : Status) → Takes a.input b.input script → length script ≤ 16777217
      → HasPlayedScript l script a b (Err s) → (status ≡ s) ⊎ (status ≡ Want) → (last_line s ≡ [] → status ≡ s)
      → (status ≡ s → (status ≡ Want) ⊎ Tells s)
      → TellsFront b.held c.held status → IsPlayed l a c status
  played-told s status taken few end (inl is) silent tells front = subst (IsPlayed l a c) (sym is)
      (same-told s taken few end (subst (λ (x : Status). (x ≡ Want) ⊎ Tells s) is (tells is)) (subst (TellsFront b.held c.held) is front))
  played-told s status taken few end (inr want) silent tells front =
      subst (IsPlayed l a c) (sym want)
      (want-told s taken few end (λ none. sym want ∙ silent none) (subst (TellsFront b.held c.held) want front))

pub told-ended : (l : Language) (a b c : Outside) → c.input ≡ b.input → c.reads ≡ b.reads → a.writes ≤ b.writes
    → b.writes ≤ c.writes → (s status : Status) → HasTreatedScript l a b (Err s)
    → (status ≡ s) ⊎ (status ≡ Want) → (last_line s ≡ [] → status ≡ s)
    → (status ≡ s → (status ≡ Want) ⊎ EndsWith b.held c.held b.writes c.writes [] (last_line s))
    → TellsFront b.held c.held status → IsPlayed l a c status
told-ended l a b c kept reads later more s status end is silent tells front = played-told l end.script a b c kept reads
    later more s status end.taken end.few end.ends is silent tells front

-- what is promised of a language's scripts may be said in other words
pub promised : (l : Language) (Promise : List ℕ → Type 0) → ((text : List ℕ) → l.Promise text → Promise text)
    → (a b : Outside) (status : Status) → IsPlayed l a b status
    → IsPlayed (record { transcript = l.transcript; verdict = l.verdict; Promise = Promise }) a b status
promised l Promise keeps a b status played = record {
  script = played.script;
  taken = played.taken;
  told = played.told;
  wanted = played.wanted;
  most = played.most;
  too_long = played.too_long;
  long = played.long;
  done_ended = played.done_ended;
  done_bytes = played.done_bytes;
  promises = λ done. keeps played.script (played.promises done);
  refused_bytes = played.refused_bytes;
  unread_bytes = played.unread_bytes;
  bytes = played.bytes;
}

-- a text that was written in whole or in part
pub written-whole : (wanted : Status) (text : List ℕ) (before now : List ℕ) (faults_before faults_now : ℕ)
    → wanted ≡ Done → Appends before now text → IsTextWritten wanted text before now faults_before faults_now Done
written-whole wanted text before now faults_before faults_now is bytes = record {
  told = inl (sym is);
  short = λ want. absurd (cc want);
  done_bytes = λ _. bytes;
  bytes = record { middle = now; written = all-written before now text bytes; told = nothing-told now Done };
}

-- a fault of the sink, no memory, or what is wrong with a script
abbrev pub IsFault : Status → ℕ → ℕ → Status → Type 0
IsFault wanted before now s = ((s ≡ WriteFault) × Rose before now) ⊎ (s ≡ Want) ⊎ (TellsOfScript s × (s ≡ wanted))

pub written-part : (wanted : Status) (text : List ℕ) (before middle now : List ℕ)
    (faults_before faults_middle faults_now : ℕ) (s status : Status) → IsFault wanted faults_before faults_middle s
    → HasWritten before middle text → (middle ≡ before) ⊎ HasWrittenPart before middle text → (status ≡ s)
    ⊎ (status ≡ Want) → TellsFront middle now status → faults_middle ≤ faults_now
    → IsTextWritten wanted text before now faults_before faults_now status
written-part wanted text before middle now faults_before faults_middle faults_now s status fault written unfinished is front more = record {
  told = which fault is;
  short = λ want. record { middle = middle; unfinished = unfinished; told = subst (TellsFront middle now) want front };
  done_bytes = λ done. absurd (never fault is done);
  bytes = record { middle = middle; written = written; told = front };
}
  where
    which : IsFault wanted faults_before faults_middle s → (status ≡ s) ⊎ (status ≡ Want) → (status ≡ wanted)
        ⊎ (status ≡ Want) ⊎ ((status ≡ WriteFault) × Rose faults_before faults_now)
    which fault (inr want) = inr (inl want)
    which (inl failed) (inl is) = let rose : Rose faults_before faults_middle = failed.1 in inr (inr (is ∙ failed.0, omega (arith, rose, more)))
    which (inr (inl want)) (inl is) = inr (inl (is ∙ want))
    which (inr (inr tells)) (inl is) = inl (is ∙ tells.1)

    never : IsFault wanted faults_before faults_middle s → (status ≡ s) ⊎ (status ≡ Want) → status ≡ Done → ⊥
    never fault (inr want) now = cc (sym now ∙ want)
    never (inl failed) (inl is) now = cc (sym now ∙ is ∙ failed.0)
    never (inr (inl want)) (inl is) now = cc (sym now ∙ is ∙ want)
    never (inr (inr tells)) (inl is) now = subst TellsOfScript (sym is ∙ now) tells.0

-- a fault where there is no script
pub fault-alone : (wanted : Status) (before now : ℕ) (s : Status) → ((s ≡ WriteFault) × Rose before now) ⊎ (s ≡ Want) → IsFault wanted before now s
fault-alone wanted before now s (inl failed) = inl failed
fault-alone wanted before now s (inr want) = inr (inl want)
