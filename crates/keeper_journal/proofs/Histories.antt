-- Bodies that say commits, one after the other.
use Rattle.std.proofs.Common.{◌≡◌, ℕ, ◌+◌, ◌^◌, ◌<◌, List, [], ◌∷◌, ◌++◌, length, Some, refl, sym, ◌∙◌, ap, subst, arith, append_assoc}
use Rattle.std.proofs.lemmas.List.{append-nil}
use Rattle.std.specs.FinMap.{empty}
use Rattle.keeper_core.specs.Rows.{Rows}
use Rattle.keeper_core.specs.Changes.{after_changes}
use Rattle.keeper_core.specs.declared.changes.Changes.{Changes}
use Rattle.disk_journal.specs.Image.{end_of}
use Rattle.keeper_journal.specs.Body.{IsBodyOf}
use Rattle.keeper_journal.specs.History.{rows_after, rows_of, next_after, next_of, MayFollow, SayFrom, Say, IsFaultyAt}
use Rattle.keeper_journal.specs.Following.{Follows, SaysNoneAfter, HasReplayed}
use Rattle.keeper_journal.specs.declared.following.Replay.{Replay}
use Rattle.keeper_journal.proofs.Bodies.{same_body}

pub say_more : (next : ℕ) (bodies : List (List ℕ)) (commits : List Changes) (body : List ℕ) (commit : Changes) → SayFrom next bodies commits → IsBodyOf body commit → MayFollow (next_after next commits) commit
    → SayFrom next (bodies ++ body ∷ []) (commits ++ commit ∷ [])
say_more next [] [] body commit say is may = (is, may, tt)
say_more next [] (c ∷ commits) body commit say is may = absurd say
say_more next (b ∷ bodies) [] body commit say is may = absurd say
say_more next (b ∷ bodies) (c ∷ commits) body commit say is may = (say.0, say.1, say_more c.next bodies commits body commit say.2 is may)

pub rows-more : (rows : Rows) (commits : List Changes) (commit : Changes) → rows_after rows (commits ++ commit ∷ []) ≡ after_changes (rows_after rows commits) commit.list
rows-more rows [] commit = refl
rows-more rows (c ∷ commits) commit = rows-more (after_changes rows c.list) commits commit

pub next-more : (next : ℕ) (commits : List Changes) (commit : Changes) → next_after next (commits ++ commit ∷ []) ≡ commit.next
next-more next [] commit = refl
next-more next (c ∷ commits) commit = next-more c.next commits commit

-- bodies say one list of commits at most
say_same : (next : ℕ) (bodies : List (List ℕ)) (commits others : List Changes) → SayFrom next bodies commits → SayFrom next bodies others → commits ≡ others
say_same next [] [] [] p q = refl
say_same next [] [] (d ∷ others) p q = absurd q
say_same next [] (c ∷ commits) others p q = absurd p
say_same next (b ∷ bodies) [] others p q = absurd p
say_same next (b ∷ bodies) (c ∷ commits) [] p q = absurd q
say_same next (b ∷ bodies) (c ∷ commits) (d ∷ others) p q =
    let head : c ≡ d = same_body b c d p.0 q.0 in
    let rest : commits ≡ others = say_same c.next bodies commits others p.2 (subst (λ (e : Changes). SayFrom e.next bodies others) (sym head) q.2) in
    ap (λ (e : Changes). e ∷ commits) head ∙ ap (λ (es : List Changes). d ∷ es) rest

pub one_history : (bodies : List (List ℕ)) (commits others : List Changes) → Say bodies commits → Say bodies others → commits ≡ others
one_history bodies commits others p q = say_same 1 bodies commits others p q

-- of bodies that say commits, the one behind a front says a commit that may follow those of the front
said : (next : ℕ) (before : List (List ℕ)) (body : List ℕ) (behind : List (List ℕ)) (commits all : List Changes) → SayFrom next before commits → SayFrom next (before ++ body ∷ behind) all
    → (commit : Changes) × IsBodyOf body commit × MayFollow (next_after next commits) commit
said next [] body behind [] [] p q = absurd q
said next [] body behind [] (d ∷ all) p q = (d, q.0, q.1)
said next [] body behind (c ∷ commits) all p q = absurd p
said next (b ∷ before) body behind [] all p q = absurd p
said next (b ∷ before) body behind (c ∷ commits) [] p q = absurd q
said next (b ∷ before) body behind (c ∷ commits) (d ∷ all) p q =
    let head : c ≡ d = same_body b c d p.0 q.0 in
    said c.next before body behind commits all p.2 (subst (λ (e : Changes). SayFrom e.next (before ++ body ∷ behind) all) (sym head) q.2)

pub faulty_says_none : (bodies : List (List ℕ)) (at : ℕ) (all : List Changes) → IsFaultyAt bodies at → Say bodies all → ⊥
faulty_says_none bodies at all faulty say =
    let found = said 1 faulty.before faulty.body faulty.behind faulty.commits all faulty.say (subst (λ (b : List (List ℕ)). Say b all) faulty.bodies_are say) in
    faulty.says_none found.0 found.1 found.2

-- two fronts behind which a body says no commit that may follow are one
one_front : (next : ℕ) (before : List (List ℕ)) (body : List ℕ) (behind : List (List ℕ)) (commits : List Changes) (before' : List (List ℕ)) (body' : List ℕ) (behind' : List (List ℕ)) (commits' : List Changes)
    → before ++ body ∷ behind ≡ before' ++ body' ∷ behind' → SayFrom next before commits → SayFrom next before' commits' → SaysNoneAfter (next_after next commits) body → SaysNoneAfter (next_after next commits') body' → before ≡ before'
one_front next [] body behind commits [] body' behind' commits' same p q none none' = refl
one_front next [] body behind [] (y ∷ before') body' behind' [] same p q none none' = absurd q
one_front next [] body behind [] (y ∷ before') body' behind' (d ∷ commits') same p q none none' =
    let head : y ≡ body = cc in
    absurd (none d (subst (λ (b : List ℕ). IsBodyOf b d) head q.0) q.1)
one_front next [] body behind (c ∷ commits) (y ∷ before') body' behind' commits' same p q none none' = absurd p
one_front next (x ∷ before) body behind [] before' body' behind' commits' same p q none none' = absurd p
one_front next (x ∷ before) body behind (c ∷ commits) [] body' behind' [] same p q none none' =
    let head : x ≡ body' = cc in
    absurd (none' c (subst (λ (b : List ℕ). IsBodyOf b c) head p.0) p.1)
one_front next (x ∷ before) body behind (c ∷ commits) [] body' behind' (d ∷ commits') same p q none none' = absurd q
one_front next (x ∷ before) body behind (c ∷ commits) (y ∷ before') body' behind' [] same p q none none' = absurd q
one_front next (x ∷ before) body behind (c ∷ commits) (y ∷ before') body' behind' (d ∷ commits') same p q none none' =
    let head : x ≡ y = cc in
    let tail : before ++ body ∷ behind ≡ before' ++ body' ∷ behind' = cc in
    let commit : d ≡ c = same_body y d c q.0 (subst (λ (b : List ℕ). IsBodyOf b c) head p.0) in
    let rest = one_front c.next before body behind commits before' body' behind' commits' tail p.2 (subst (λ (e : Changes). SayFrom e.next before' commits') commit q.2) none
    (subst (λ (e : Changes). SaysNoneAfter (next_after e.next commits') body') commit none') in
    ap (λ (b : List ℕ). b ∷ before) head ∙ ap (λ (bs : List (List ℕ)). y ∷ bs) rest

pub one_faulty_place : (bodies : List (List ℕ)) (at other : ℕ) → IsFaultyAt bodies at → IsFaultyAt bodies other → at ≡ other
one_faulty_place bodies at other p q =
    let front = one_front 1 p.before p.body p.behind p.commits q.before q.body q.behind q.commits (sym p.bodies_are ∙ q.bodies_are) p.say q.say p.says_none q.says_none in
    p.gate ∙ ap end_of front ∙ sym q.gate

pub replayed_none : (replay : Replay) → replay.table.rows ≡ empty → replay.next ≡ 1 → HasReplayed [] replay
replayed_none replay rows next = record { commits = []; say = tt; rows = rows; next = next }

pub replayed_more : (bodies : List (List ℕ)) (body : List ℕ) (old new : Replay) → HasReplayed bodies old → Follows body old new → HasReplayed (bodies ++ body ∷ []) new
replayed_more bodies body old new so_far follows =
    let may : MayFollow (next_of so_far.commits) follows.commit = subst (λ (n : ℕ). MayFollow n follows.commit) so_far.next follows.may in
    record {
      commits = so_far.commits ++ follows.commit ∷ [];
      say = say_more 1 bodies so_far.commits body follows.commit so_far.say follows.says may;
      rows = follows.rows ∙ ap (λ (r : Rows). after_changes r follows.commit.list) so_far.rows ∙ sym (rows-more empty so_far.commits follows.commit);
      next = follows.next ∙ sym (next-more 1 so_far.commits follows.commit);
    }

pub is_faulty : (before behind : List (List ℕ)) (body : List ℕ) (replay : Replay) (at : ℕ) → HasReplayed before replay → SaysNoneAfter replay.next body → at ≡ end_of before → IsFaultyAt ((before ++ body ∷ []) ++ behind) at
is_faulty before behind body replay at so_far none gate = record {
  before = before;
  body = body;
  behind = behind;
  commits = so_far.commits;
  bodies_are = append_assoc before (body ∷ []) behind;
  say = so_far.say;
  says_none = subst (λ (n : ℕ). SaysNoneAfter n body) so_far.next none;
  gate = gate;
}
