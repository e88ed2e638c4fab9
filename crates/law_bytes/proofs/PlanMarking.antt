-- A row takes a mark: its copy goes on following the plan, and so does the row that it gives once all is marked.
use Rattle.std.proofs.Common.{◌≡◌, ◌≢◌, ℕ, ◌+◌, ◌*◌, ◌<◌, ◌≤◌, ◌==◌, ◌&&◌, Bool, true, false, not, List, [], ◌∷◌, ◌++◌}
use Rattle.std.proofs.Common.{take, is_some, replicate, Option, Some, None, IfSome, ◌⊎◌, inl, inr, sym, ap, ap₂, subst}
use Rattle.std.proofs.Common.{◌∙◌, refl, arith, if◌then◌else◌}
use Rattle.std.specs.Prelude.{Contains, unwrap_or}
use Rattle.std.specs.List.{range_with_len}
use Rattle.std.proofs.lemmas.Bool.{cases_eq, eq-eqb}
use Rattle.group_types.specs.Dimensions.{Dimensions}
use Rattle.group_types.specs.Lists.{at, put}
use Rattle.group_types.specs.Names.{same_process}
use Rattle.group_types.specs.declared.process.ProcessId.{ProcessId}
use Rattle.group_types.specs.declared.process.ProcessId.TheVariants.{DataNode, ParityNode}
use Rattle.group_types.proofs.Lists.{at-map-range, at-put, at-put-other, at-replicate}
use Rattle.group_types.proofs.Names.{same-eq}
use Rattle.group_message.specs.declared.update.Update.{Update}
use Rattle.group_run.specs.Applying.{apply_to, block_after, copy_after, replica_of}
use Rattle.group_run.specs.Leaders.{copy_kept, copy_marked, mark_taken, open_session, row_finished, session_of}
use Rattle.group_run.specs.Process.{Copy, Process}
use Rattle.group_run.specs.Replica.{up_to}
use Rattle.group_run.specs.Rows.{begin_copy, copy_begun, copy_in, is_copy, is_marked, marked, new_copy, marks_of, with_copies, with_copy, without_copy}
use Rattle.law_bytes.specs.Areas.{IsBlock, block_size, code, held}
use Rattle.law_bytes.specs.Held.{CopyHolds, marked_stand}
use Rattle.law_bytes.proofs.Finding as finding
use Rattle.law_bytes.proofs.Finding.{and-join, found-apart, found-exchanged, found-filter, found-passes}
use Rattle.law_bytes.proofs.Finds.{found-behind, found-map, if-some, if-weaker}
use Rattle.law_bytes.proofs.Marking.{copy-test}
use Rattle.law_bytes.proofs.Rising.{all-among, among-range}
use Rattle.law_bytes.proofs.Values.{area-same, held-same}
use Rattle.law_bytes.proofs.Local.{copy-parts}
use Rattle.law_bytes.proofs.Marks.{same_session, session-cases}
use Rattle.law_bytes.proofs.Tokens.{Own, Token}
use Rattle.law_bytes.proofs.Stamps.{AmongRows, CopyFollows, GatheringFollows, OfSession, Plan, ProcessFollows, RowFollows, planned}
use Rattle.law_bytes.proofs.Following.{Sends, copy-applied, if-filter}
use Rattle.law_bytes.proofs.Gathering.{still-row}

module _ (s : Dimensions) (settled : ℕ → List Update) (l n : ℕ) (plan : Plan) where
  -- the session, as a token of it
  abbrev pub t : Token
  t = record { leader = l; number = n; partition = 0; way = Own }

  -- what is said of a row's copy
  abbrev pub CopyAt : ℕ → Copy → Type 0
  CopyAt r c = Contains plan.rows r × CopyFollows s plan c

  -- a copy before its mark: it may be new
  record Half (c : Copy) : Type 0 where
    block : c.block ≡ plan.block
    marks : (d number : ℕ) → d < s.k → at None c.marks d ≡ Some number → number ≡ plan.numbers d

  -- a copy that is marked
  marked-follows : (c : Copy) (d k : ℕ) → d < s.k → k ≡ plan.numbers d → Half c → CopyFollows s plan (marked d k c)
  marked-follows c d k below number half = record {
    block = half.block;
    marks = λ e j low is. by e j low is (cases_eq e d);
    marked = (d, below, ap is_some (at-put None None c.marks d (Some k)));
  } where
    by : (e j : ℕ) → e < s.k → at None (put None c.marks d (Some k)) e ≡ Some j → (e ≡ d) ⊎ (e ≢ d) → j ≡ plan.numbers e
    by e j low is (inl same) =
        let now : Some k ≡ Some j = sym (at-put None None c.marks d (Some k)) ∙ ap (at None (put None c.marks d (Some k))) (sym same) ∙ is in
        let numbers : k ≡ j = cc now in
        sym numbers ∙ number ∙ ap plan.numbers (sym same)
    by e j low is (inr other) = half.marks e j low (sym (at-put-other None c.marks d e (Some k) other) ∙ is)

  -- a finished copy is the code at the plan's numbers
  row-follows : (q : Process) (c : Copy) (i : ℕ) → q.name ≡ ParityNode i → is_marked s c ≡ true → CopyAt i c
      → CopyHolds s settled q c → RowFollows s settled plan (ParityNode i) c.bytes (marks_of s c)
  row-follows q c i name whole follows holds = (follows.0, exact, stamp) where
    number : (d : ℕ) (o : Option ℕ) (b : ℕ) → d < s.k → at None c.marks d ≡ o → is_some o ≡ true → unwrap_or o b ≡ plan.numbers d
    number d (Some k) b below is some = follows.1.marks d k below is
    number d None b below is some = absurd (cc some)

    numbers : (d b : ℕ) → d < s.k → unwrap_or (at None c.marks d) b ≡ plan.numbers d
    numbers d b below =
        number d (at None c.marks d) b below refl
        (all-among (λ e. is_some (at None c.marks e)) (range_with_len 0 s.k) d whole (among-range d 0 s.k (omega arith) (omega (arith, below))))

    stamp : (d : ℕ) → d < s.k → at 0 (marks_of s c) d ≡ plan.numbers d
    stamp d below =
        at-map-range 0 (λ e. unwrap_or (at None c.marks e) 0) s.k 0 d below
        ∙ (let same : 0 + d ≡ d = omega arith in ap (λ (e : ℕ). unwrap_or (at None c.marks e) 0) same) ∙ numbers d 0 below

    exact : IsBlock s plan.block (code s i (planned settled plan)) c.bytes
    exact = subst (λ (b : ℕ). IsBlock s b (code s i (planned settled plan)) c.bytes) follows.1.block
        (area-same (c.block * s.block) (block_size s c.block) (held s (ParityNode i) (marked_stand settled c.marks q)) (code s i (planned settled plan)) c.bytes
        (subst (λ (x : ProcessId). IsBlock s c.block (held s x (marked_stand settled c.marks q)) c.bytes) name holds.bytes)
        (λ x. held-same s (ParityNode i) (marked_stand settled c.marks q) (planned settled plan) x tt
        (λ d below. ap (λ (k : ℕ). take k (settled d)) (sym (numbers d (replica_of q d).applied below)))))

  -- what is said of a copy that is marked, if it is of the session, at a process of some name
  pub record MineAt (c : Copy) (r : ℕ) : Type 0 where
    pub copy : CopyAt r c
    pub row : is_marked s c ≡ true → RowFollows s settled plan (ParityNode r) c.bytes (marks_of s c)

  abbrev pub Mine : Copy → ProcessId → Type 0
  Mine c x = c.leader ≡ l → c.number ≡ n → (r : ℕ) → x ≡ ParityNode r → MineAt c r

  -- a marked copy c, first the copy old of its session, is kept, or goes as a row
  module _ (q : Process) (c old : Copy) (first : copy_in q.as_row.copies c.leader c.number ≡ Some old)
      (others : same_session t c.leader c.number ≡ false → (r : ℕ) → q.name ≡ ParityNode r → IfSome (copy_in q.as_row.copies l n) (CopyAt r))
      (mine : Mine c q.name) (session : q.name ≡ ParityNode l → IfSome (open_session q.as_leader n)
      (λ g. (n ≤ q.as_leader.last_session) × GatheringFollows s settled plan g)) where
    turned : (x : Copy) → is_copy l n x ≡ true → is_copy c.leader c.number x ≡ (l == c.leader && n == c.number)
    turned x is = let parts = copy-parts l n x is in ap₂ (λ (a b : ℕ). a == c.leader && b == c.number) parts.0 parts.1

    waiting : (r : ℕ) → q.name ≡ ParityNode r → IfSome (copy_in (with_copy c q.as_row.copies) l n) (CopyAt r)
    waiting r named = by (session-cases t c.leader c.number) where
      own : is_copy c.leader c.number c ≡ true
      own = and-join (c.leader == c.leader) (c.number == c.number) (eq-eqb c.leader c.leader refl) (eq-eqb c.number c.number refl)

      by : ((c.leader ≡ l) × (c.number ≡ n)) ⊎ (same_session t c.leader c.number ≡ false) → IfSome (copy_in (with_copy c q.as_row.copies) l n) (CopyAt r)
      by (inl same) =
          let found : copy_in (with_copy c q.as_row.copies) l n ≡ Some c =
          ap₂ (λ (a b : ℕ). copy_in (with_copy c q.as_row.copies) a b) (sym same.0) (sym same.1)
          ∙ found-exchanged (is_copy c.leader c.number) c old q.as_row.copies own first in
          subst (λ o. IfSome o (CopyAt r)) (sym found) (mine same.0 same.1 r named).copy
      by (inr other) = subst (λ o. IfSome o (CopyAt r)) (sym (found-apart (is_copy l n) (is_copy c.leader c.number) c q.as_row.copies other
          (λ x swap. let parts = copy-parts c.leader c.number x swap in ap₂ (λ (a b : ℕ). a == l && b == n) parts.0 parts.1 ∙ other))) (others other r named)

    abbrev ended : Process
    ended = with_copies (without_copy c.leader c.number q.as_row.copies) q

    ended_copy : (r : ℕ) → q.name ≡ ParityNode r → IfSome (copy_in (without_copy c.leader c.number q.as_row.copies) l n) (CopyAt r)
    ended_copy r named = by (session-cases t c.leader c.number) where
      by : ((c.leader ≡ l) × (c.number ≡ n)) ⊎ (same_session t c.leader c.number ≡ false)
          → IfSome (copy_in (without_copy c.leader c.number q.as_row.copies) l n) (CopyAt r)
      by (inl same) =
          let here : (l == c.leader && n == c.number) ≡ true = and-join _ _ (eq-eqb l c.leader (sym same.0)) (eq-eqb n c.number (sym same.1)) in
          subst (λ o. IfSome o (CopyAt r))
          (sym (found-filter (is_copy l n) (λ x. not (is_copy c.leader c.number x)) false q.as_row.copies
          (λ x is. ap not (turned x is ∙ here)))) tt
      by (inr other) =
          if-filter (is_copy l n) (λ x. not (is_copy c.leader c.number x)) (CopyAt r) (not (l == c.leader && n == c.number)) q.as_row.copies
          (λ x is. ap not (turned x is)) (others other r named)

    ended_follows : ProcessFollows s settled l n plan ended
    ended_follows = record { copy = ended_copy; session = session }

    -- the row that goes, by the name of its process
    gives : (x : ProcessId) → q.name ≡ x → is_marked s c ≡ true → OfSession l n (session_of c.leader c.number)
        → RowFollows s settled plan x c.bytes (marks_of s c)
    gives (DataNode e) named whole of_it = tt
    gives (ParityNode r) named whole of_it = let leaders : c.leader ≡ l = cc of_it.0 in (mine leaders of_it.1 r named).row whole

    finished : (own : Bool) → same_process q.name (ParityNode c.leader) ≡ own → is_marked s c ≡ true
        → ProcessFollows s settled l n plan (row_finished own s c ended).process × Sends s settled l n plan q.name (row_finished own s c ended).sent
    finished true is whole = ((still-row s settled l n plan c.number c.leader c.bytes ended right).follows ended_follows, tt) where
      named : q.name ≡ ParityNode c.leader
      named = same-eq q.name (ParityNode c.leader) is

      right : q.name ≡ ParityNode l → n ≡ c.number → Contains plan.rows c.leader × IsBlock s plan.block (code s c.leader (planned settled plan)) c.bytes
      right leads number =
          let names : ParityNode c.leader ≡ ParityNode l = sym named ∙ leads in
          let leaders : c.leader ≡ l = cc names in
          let row = (mine leaders (sym number) c.leader named).row whole in
          (row.0, row.1)
    finished false is whole = (ended_follows, (λ of_it. gives q.name refl whole of_it, tt))

    kept : (whole : Bool) → is_marked s c ≡ whole → ProcessFollows s settled l n plan (copy_kept whole s c q).process
        × Sends s settled l n plan q.name (copy_kept whole s c q).sent
    kept true whole = finished (same_process q.name (ParityNode c.leader)) refl whole
    kept false whole = (record { copy = waiting; session = session }, tt)

    pub kept-follows : ProcessFollows s settled l n plan (copy_kept (is_marked s c) s c q).process
        × Sends s settled l n plan q.name (copy_kept (is_marked s c) s c q).sent
    kept-follows = kept (is_marked s c) refl

  -- a mark is taken
  module _ (p : Process) (leader number block d k : ℕ) (below : d < s.k)
      (fits : leader ≡ l → number ≡ n → (block ≡ plan.block) × (k ≡ plan.numbers d) × AmongRows plan.rows p.name)
      (is : ProcessFollows s settled l n plan p) where
    abbrev begun : Process
    begun = begin_copy s leader number block p

    abbrev pub q : Process
    q = apply_to s d k begun

    begun_name : (b : Bool) → (copy_begun b s leader number block p).name ≡ p.name
    begun_name true = refl
    begun_name false = refl

    begun_session : (b : Bool) → (copy_begun b s leader number block p).as_leader ≡ p.as_leader
    begun_session true = refl
    begun_session false = refl

    -- of another session
    begun_other : same_session t leader number ≡ false → (b : Bool) (r : ℕ) → p.name ≡ ParityNode r
        → IfSome (copy_in (copy_begun b s leader number block p).as_row.copies l n) (CopyAt r)
    begun_other other true r named = is.copy r named
    begun_other other false r named = by (finding.found-behind (is_copy l n) p.as_row.copies (new_copy s leader number block p.space)) where
      by : (copy_in (p.as_row.copies ++ new_copy s leader number block p.space ∷ []) l n ≡ copy_in p.as_row.copies l n)
          ⊎ ((copy_in p.as_row.copies l n ≡ None)
          × (copy_in (p.as_row.copies ++ new_copy s leader number block p.space ∷ []) l n
          ≡ Some (new_copy s leader number block p.space)))
          → IfSome (copy_in (p.as_row.copies ++ new_copy s leader number block p.space ∷ []) l n) (CopyAt r)
      by (inl same) = subst (λ o. IfSome o (CopyAt r)) (sym same) (is.copy r named)
      by (inr both) =
          absurd (cc (
            other,
            found-passes (is_copy l n) (p.as_row.copies ++ new_copy s leader number block p.space ∷ [])
                (new_copy s leader number block p.space) both.1,
          ))

    -- of the session
    half_new : leader ≡ l → number ≡ n → Half (new_copy s leader number block p.space)
    half_new leaders numbers = record { block = (fits leaders numbers).0; marks = λ e j low there. absurd (cc (there, none e)) } where
      none : (e : ℕ) → ◌≡◌ {A = Option ℕ} (at None (replicate s.k None) e) None
      none e = at-replicate None s.k e

    half_begun : (r : ℕ) → p.name ≡ ParityNode r → leader ≡ l → number ≡ n → (b : Bool)
        → IfSome (copy_in (copy_begun b s leader number block p).as_row.copies leader number) Half
    half_begun r named leaders numbers b = by b where
      old : IfSome (copy_in p.as_row.copies leader number) Half
      old = subst (λ o. IfSome o Half) (ap₂ (λ (x y : ℕ). copy_in p.as_row.copies x y) (sym leaders) (sym numbers))
          (if-weaker (CopyAt r) Half (λ c follows. record { block = follows.1.block; marks = follows.1.marks }) (copy_in p.as_row.copies l n) (is.copy r named))

      by : (c : Bool) → IfSome (copy_in (copy_begun c s leader number block p).as_row.copies leader number) Half
      by true = old
      by false = found-behind (is_copy leader number) Half p.as_row.copies (new_copy s leader number block p.space) old (half_new leaders numbers)

    half_applied : (name : ProcessId) (us : List Update) (c : Copy) → Half c → Half (copy_after s name d us c)
    half_applied name us c half = by (is_some (at None c.marks d)) where
      by : (b : Bool) → Half (if b then c else record c { bytes = block_after s name d c.block us c.bytes })
      by true = half
      by false = record { block = half.block; marks = half.marks }

    name_q : q.name ≡ p.name
    name_q = begun_name (is_some (copy_in p.as_row.copies leader number))

    -- what the copy holds once it is marked
    module _ (holds : leader ≡ l → number ≡ n → (c : Copy) → copy_in q.as_row.copies leader number ≡ Some c → CopyHolds s settled q (marked d k c)) where
      pub mine_there : (c : Copy) → copy_in q.as_row.copies leader number ≡ Some c → leader ≡ l → number ≡ n → (r : ℕ)
          → q.name ≡ ParityNode r → MineAt (marked d k c) r
      mine_there c there leaders numbers r named =
          let half_q : IfSome (copy_in q.as_row.copies leader number) Half =
          found-map (is_copy leader number) Half (copy_after s begun.name d (up_to k (replica_of begun d))) begun.as_row.copies
          (λ x. copy-test s begun.name d (up_to k (replica_of begun d)) leader number x) (half_applied begun.name (up_to k (replica_of begun d)))
          (half_begun r (sym name_q ∙ named) leaders numbers (is_some (copy_in p.as_row.copies leader number))) in
          let half : Half c = if-some Half (copy_in q.as_row.copies leader number) c there half_q in
          let fit = fits leaders numbers in
          let among : Contains plan.rows r = subst (AmongRows plan.rows) (sym name_q ∙ named) fit.2 in
          let copy : CopyAt r (marked d k c) = (among, marked-follows c d k below fit.1 half) in
          record { copy = copy; row = λ whole. row-follows q (marked d k c) r named whole copy (holds leaders numbers c there) }

      others : same_session t leader number ≡ false → (r : ℕ) → q.name ≡ ParityNode r → IfSome (copy_in q.as_row.copies l n) (CopyAt r)
      others other r named = found-map (is_copy l n) (CopyAt r) (copy_after s begun.name d (up_to k (replica_of begun d))) begun.as_row.copies
          (λ x. copy-test s begun.name d (up_to k (replica_of begun d)) l n x) (copy-applied s settled l n plan begun.name d r (up_to k (replica_of begun d)))
          (begun_other other (is_some (copy_in p.as_row.copies leader number)) r (sym name_q ∙ named))

      session_q : (b : Bool) → IfSome (open_session p.as_leader n) (λ g. (n ≤ p.as_leader.last_session) × GatheringFollows s settled plan g)
          → IfSome (open_session (copy_begun b s leader number block p).as_leader n)
          (λ g. (n ≤ (copy_begun b s leader number block p).as_leader.last_session)
          × GatheringFollows s settled plan g)
      session_q true holds_p = holds_p
      session_q false holds_p = holds_p

      session : q.name ≡ ParityNode l → IfSome (open_session q.as_leader n) (λ g. (n ≤ q.as_leader.last_session) × GatheringFollows s settled plan g)
      session named = session_q (is_some (copy_in p.as_row.copies leader number)) (is.session (sym name_q ∙ named))

      found : (o : Option Copy) → copy_in q.as_row.copies leader number ≡ o
          → ProcessFollows s settled l n plan (copy_marked s d k o q).process × Sends s settled l n plan q.name (copy_marked s d k o q).sent
      found None there = (record { copy = λ r named. by r named (session-cases t leader number); session = session }, tt) where
        by : (r : ℕ) → q.name ≡ ParityNode r → ((leader ≡ l) × (number ≡ n)) ⊎ (same_session t leader number ≡ false)
            → IfSome (copy_in q.as_row.copies l n) (CopyAt r)
        by r named (inl same) = subst (λ o. IfSome o (CopyAt r)) (sym (ap₂ (λ (x y : ℕ). copy_in q.as_row.copies x y) (sym same.0) (sym same.1) ∙ there)) tt
        by r named (inr other) = others other r named
      found (Some c) there =
          kept-follows q (marked d k c) c first
          (λ other. others (sym (ap₂ (λ (a b : ℕ). same_session t a b) parts.0 parts.1) ∙ other)) mine session where
            parts : (c.leader ≡ leader) × (c.number ≡ number)
            parts = copy-parts leader number c (found-passes (is_copy leader number) q.as_row.copies c there)

            first : copy_in q.as_row.copies c.leader c.number ≡ Some c
            first = ap₂ (λ (a b : ℕ). copy_in q.as_row.copies a b) parts.0 parts.1 ∙ there

            mine : Mine (marked d k c) q.name
            mine leaders numbers r named = mine_there c there (sym parts.0 ∙ leaders) (sym parts.1 ∙ numbers) r named

      pub taken-follows : ProcessFollows s settled l n plan (mark_taken s leader number block d k p).process
          × Sends s settled l n plan p.name (mark_taken s leader number block d k p).sent
      taken-follows =
          let all = found (copy_in q.as_row.copies leader number) refl in
          (all.0, subst (λ (x : ProcessId). Sends s settled l n plan x (copy_marked s d k (copy_in q.as_row.copies leader number) q).sent) name_q all.1)
