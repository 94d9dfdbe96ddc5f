-- Document 01, Runs to check: the starred runs as one list, and examples that contents do move. 02, Paper 1: the holders after some logs;
-- Paper 2: which thing was missing; Paper 3: map both; Paper 4: mapped twice; Paper 5: how far a call spread.
use Rattle.std.specs.Prelude.{ℕ, ◌+◌, ◌≡◌, true, false, List, [], ◌∷◌, ◌++◌, map, eqb, length, replicate}
use Rattle.flow.specs.Lists.{table}
use Rattle.flow.specs.Box.{State, fresh, items_of}
use Rattle.flow.specs.Calls.{Kind, start, open_name, create, pipe, device, dup, close, read, write, truncate, map_read, map_both, unmap, unlink, rename, link, fork, exit, label, kind_number}
use Rattle.flow.specs.Verdicts.{Answer, refused, rule, allow, inhibit, modify, answer_all, run_log}
use Rattle.flow.specs.Queries.{Reply, refuse, result, holders_query, holders_slice}
use Rattle.flow.specs.Contents.{Step, entry, memory, Feeder, Machine, state_at, run_at}

-- a container, and the set of its items
pub record Held : Type 0 where
  pub container : ℕ
  pub items : ℕ

-- a log, the answers to it, and what some containers hold at its end
pub record Check : Type 0 where
  pub log : List ℕ
  pub answers : List Answer
  pub held : List Held

-- the log's answers and holdings as the definitions have them
unfoldable pub outcome_of : Check → Check
outcome_of x =
    let r = run_log fresh x.log in
    record { log = x.log; answers = r.answers; held = map (λ h. record { container = h.container; items = items_of r.state h.container }) x.held }

-- ---- logs
-- a call record
unfoldable pub call : Kind → ℕ → ℕ → ℕ → ℕ → List ℕ
call k p a b c = 0x10 ∷ 0 ∷ 5 ∷ kind_number k ∷ p ∷ a ∷ b ∷ c ∷ []

-- a rule record of tag 11 or 13 hex: item, the four low bytes of the container set from the highest (container 24 is bit 0 of b3), action, substitute
abbrev set_rule : ℕ → ℕ → ℕ → ℕ → ℕ → ℕ → ℕ → ℕ → List ℕ
set_rule tag i b3 b2 b1 b0 action substitute = tag ∷ 0 ∷ 11 ∷ i ∷ 0 ∷ 0 ∷ 0 ∷ 0 ∷ b3 ∷ b2 ∷ b1 ∷ b0 ∷ action ∷ substitute ∷ []

abbrev check : List ℕ → List Answer → List Held → Check
check log answers held = record { log = log; answers = answers; held = held }

abbrev holding : ℕ → ℕ → Held
holding c x = record { container = c; items = x }

-- process 0 maps 24 both ways, process 1 maps 24 to read, 0 reads 25, which holds item 2 (the set 4)
unfoldable pub shared : List ℕ
shared =
    call start 0 0 0 0 ++ call start 1 0 0 0 ++ call create 0 0 0 24 ++ call open_name 1 0 0 0 ++ call create 0 1 1 25 ++ call label 0 25 2 0
    ++ call map_both 0 0 0 0 ++ call map_read 1 0 0 0 ++ call read 0 1 0 0

-- process 0 creates 24 under name 5 with descriptor 0; 24 is labelled with item 1 (the set 2)
unfoldable pub filed : List ℕ
filed = call start 0 0 0 0 ++ call create 0 5 0 24 ++ call label 0 24 1 0

unfoldable pub renamed : List ℕ
renamed = filed ++ call rename 0 5 5 0

-- no item 0 in device 7
unfoldable pub spare : List ℕ
spare = set_rule 0x11 0 0 0 0 0x80 0 0

-- a log 32 times over
unfoldable pub thirty_two : List ℕ → List ℕ
thirty_two l = let m = l ++ l ++ l ++ l in m ++ m ++ m ++ m ++ m ++ m ++ m ++ m

-- allowed calls by which nothing gains
unfoldable pub allowed : ℕ → List Answer
allowed n = table n (λ k. allow 0)

-- allowed calls, by how many containers gained in each (02, Paper 5)
unfoldable pub gaining : List ℕ → List Answer
gaining l = map allow l

unfoldable pub starred : List Check
starred =
    -- A: an empty log gives no answers
    check [] [] []
    -- C: start 0 twice
    ∷ check (call start 0 0 0 0 ++ call start 0 0 0 0) (allow 0 ∷ refused 7 ∷ []) []
    -- D: start 15, start 16
    ∷ check (call start 15 0 0 0 ++ call start 16 0 0 0) (allow 0 ∷ refused 5 ∷ []) []
    -- E: create with container 23 or 64; with 24 or 63, free
    ∷ check
    (call start 0 0 0 0 ++ call create 0 0 0 23 ++ call create 0 0 0 64 ++ call create 0 0 0 24 ++ call create 0 1 1 63)
    (allow 0 ∷ refused 5 ∷ refused 5 ∷ allow 0 ∷ allow 0 ∷ [])
    []
    -- F: pipe with descriptors 3 and 3, closed, with container 24 free, then with it in use
    ∷ check (call start 0 0 0 0 ++ call pipe 0 3 3 24 ++ call create 0 0 0 24 ++ call pipe 0 3 3 24) (allow 0 ∷ refused 9 ∷ allow 0 ∷ refused 7 ∷ []) []
    -- G: 8, 24 and 9 hold 2
    ∷ check shared (gaining (0 ∷ 0 ∷ 0 ∷ 0 ∷ 0 ∷ 1 ∷ 0 ∷ 0 ∷ 3 ∷ [])) (holding 8 4 ∷ holding 24 4 ∷ holding 9 4 ∷ [])
    -- H: truncate 24: it still holds 2. Process 0 unmaps 24 (02, Paper 4: b = 1) and truncates again: 24 is empty, 9 holds 2
    ∷ check (shared ++ call truncate 0 0 0 0) (gaining (0 ∷ 0 ∷ 0 ∷ 0 ∷ 0 ∷ 1 ∷ 0 ∷ 0 ∷ 3 ∷ 0 ∷ [])) (holding 24 4 ∷ [])
    ∷ check (shared ++ call truncate 0 0 0 0 ++ call unmap 0 24 1 0 ++ call truncate 0 0 0 0) (gaining (0 ∷ 0 ∷ 0 ∷ 0 ∷ 0 ∷ 1 ∷ 0 ∷ 0 ∷ 3 ∷ 0 ∷ 0 ∷ 0 ∷ [])) (holding 24 0 ∷ holding 9 4 ∷ [])
    -- I: create, label, close: the item stays. Unlink too: 24 is empty and may be created again
    ∷ check (filed ++ call close 0 0 0 0) (gaining (0 ∷ 0 ∷ 1 ∷ 0 ∷ [])) (holding 24 2 ∷ [])
    ∷ check (filed ++ call close 0 0 0 0 ++ call unlink 0 5 0 0) (gaining (0 ∷ 0 ∷ 1 ∷ 0 ∷ 0 ∷ [])) (holding 24 0 ∷ [])
    ∷ check (filed ++ call close 0 0 0 0 ++ call unlink 0 5 0 0 ++ call create 0 5 0 24) (gaining (0 ∷ 0 ∷ 1 ∷ 0 ∷ 0 ∷ 0 ∷ [])) (holding 24 0 ∷ [])
    -- J: rename of bound 5 to 5
    ∷ check renamed (gaining (0 ∷ 0 ∷ 1 ∷ 0 ∷ [])) (holding 24 2 ∷ [])
    -- K: a rule against item 1 in 24 while it is there; with 32 rules held
    ∷ check (filed ++ set_rule 0x11 1 1 0 0 0 0 0) (gaining (0 ∷ 0 ∷ 1 ∷ []) ++ refused 12 ∷ []) []
    ∷ check (filed ++ thirty_two spare ++ set_rule 0x11 1 1 0 0 0 0 0) (gaining (0 ∷ 0 ∷ 1 ∷ []) ++ table 32 rule ++ refused 11 ∷ []) []
    -- L: rule on items 1 and 2; a process holding 1 reads 2
    ∷ check
    ((0x12 ∷ 0 ∷ 4 ∷ 1 ∷ 2 ∷ 0 ∷ 0 ∷ []) ++ call start 0 0 0 0 ++ call label 0 8 1 0 ++ call create 0 0 0 24 ++ call label 0 24 2 0 ++ call read 0 0 0 0)
    (rule 0 ∷ allow 0 ∷ allow 1 ∷ allow 0 ∷ allow 1 ∷ inhibit 0 ∷ [])
    []
    -- M: a divert whose substitute 24 isn't in use
    ∷ check
    (set_rule 0x11 1 0 0 0 2 1 24 ++ call start 0 0 0 0 ++ call label 0 8 1 0 ++ call device 0 0 1 0 ++ call write 0 0 0 0)
    (rule 0 ∷ allow 0 ∷ allow 1 ∷ allow 0 ∷ inhibit 0 ∷ [])
    []
    -- N: a tag 13 hex rule, action 0, allows item 1 only in 24 and 8; process 0 holds it and forks 1
    ∷ check (set_rule 0x13 1 1 0 1 0 0 0 ++ call start 0 0 0 0 ++ call label 0 8 1 0 ++ call fork 0 1 0 0) (rule 0 ∷ allow 0 ∷ allow 1 ∷ inhibit 0 ∷ []) []
    ∷ []

-- each has its stated outcome; and J changes nothing
unfoldable pub Starred : Type 0
Starred = (map outcome_of starred ≡ starred) × ((run_log fresh renamed).state ≡ (run_log fresh filed).state)

-- run B: its last record is cut short
unfoldable pub run_b : List ℕ
run_b =
    call start 0 0 0 0 ++ call create 0 5 0 24 ++ call label 0 24 1 0 ++ set_rule 0x11 1 0 0 0 2 1 3 ++ call device 0 1 1 0 ++ call read 0 0 0 0 ++ call write 0 1 0 0 ++ call write 0 2 0 0 ++ 0x10 ∷ 0 ∷ []

-- ---- further checks: run B's answers, and the rows of the table of refusals that no starred run meets
unfoldable pub further : List Check
further =
    -- B (02, Paper 2: its last line but one is 14; Paper 5: how many gained)
    check
    run_b
    (gaining (0 ∷ 0 ∷ 1 ∷ []) ++ rule 0 ∷ allow 0 ∷ allow 1 ∷ modify 0 3 1 ∷ refused 14 ∷ refused 1 ∷ [])
    (holding 3 2 ∷ holding 1 0 ∷ [])
    -- the lowest broken rule is number 1, and it inhibits although number 2 would divert
    ∷ check
    (spare ++ set_rule 0x11 1 0 0 0 2 0 0 ++ set_rule 0x11 1 0 0 0 2 1 3 ++ call start 0 0 0 0 ++ call label 0 8 1 0 ++ call device 0 0 1 0 ++ call write 0 0 0 0)
    (rule 0 ∷ rule 1 ∷ rule 2 ∷ allow 0 ∷ allow 1 ∷ allow 0 ∷ inhibit 1 ∷ [])
    []
    -- 1 before 2 and 3: the value runs past the end; 2 before 3; 3 before 4
    ∷ check (0x20 ∷ 0 ∷ 1 ∷ []) (refused 1 ∷ []) []
    ∷ check (0x20 ∷ 0 ∷ 1 ∷ 0 ∷ 0x10 ∷ 0 ∷ 1 ∷ 99 ∷ []) (refused 2 ∷ refused 3 ∷ []) []
    -- 4 before 5, of a call and of a rule
    ∷ check (0x10 ∷ 0 ∷ 5 ∷ 20 ∷ 99 ∷ 0 ∷ 0 ∷ 0 ∷ 0x12 ∷ 0 ∷ 4 ∷ 99 ∷ 99 ∷ 7 ∷ 0 ∷ []) (refused 4 ∷ refused 4 ∷ []) []
    -- 5: label's process field, an unused field, a substitute under action 0, a process as the substitute; 5 before 9
    ∷ check
    (call label 1 0 0 0 ++ call start 0 0 0 1 ++ set_rule 0x11 0 0 0 0 0 0 1 ++ set_rule 0x11 0 0 0 0 0 1 8 ++ 0x12 ∷ 0 ∷ 4 ∷ 64 ∷ 64 ∷ 0 ∷ 0 ∷ [])
    (refused 5 ∷ refused 5 ∷ refused 5 ∷ refused 5 ∷ refused 5 ∷ [])
    []
    -- 6, 7 before 15, 15, 16, 8, 9 of a rule, 10
    ∷ check
    (call read 0 0 0 0 ++ call start 0 0 0 0 ++ call device 0 0 1 0 ++ call open_name 0 9 0 0 ++ call open_name 0 9 1 0 ++ call unmap 0 24 0 0 ++ call label 0 24 0 0 ++ 0x12 ∷ 0 ∷ 4 ∷ 3 ∷ 3 ∷ 0 ∷ 0 ∷ [] ++ call truncate 0 0 0 0)
    (refused 6 ∷ allow 0 ∷ allow 0 ∷ refused 7 ∷ refused 15 ∷ refused 16 ∷ refused 8 ∷ refused 9 ∷ refused 10 ∷ [])
    []
    -- a dead process leaves no descriptors and no links: started again it has none
    ∷ check
    (call start 0 0 0 0 ++ call create 0 0 0 24 ++ call map_both 0 0 0 0 ++ call exit 0 0 0 0 ++ call start 0 0 0 0 ++ call read 0 0 0 0 ++ call unmap 0 24 1 0 ++ call label 0 24 1 0)
    (allowed 5 ++ refused 14 ∷ refused 16 ∷ allow 1 ∷ [])
    (holding 24 2 ∷ holding 8 0 ∷ [])
    -- a child has the parent's descriptors, and its links in each direction
    ∷ check
    (call start 0 0 0 0 ++ call create 0 0 0 24 ++ call create 0 1 1 25 ++ call map_both 0 0 0 0 ++ call fork 0 1 0 0 ++ call label 0 24 1 0 ++ call label 0 9 2 0 ++ call write 1 1 0 0)
    (gaining (0 ∷ 0 ∷ 0 ∷ 0 ∷ 0 ∷ 3 ∷ 3 ∷ 1 ∷ []))
    (holding 8 6 ∷ holding 9 6 ∷ holding 24 6 ∷ holding 25 6 ∷ [])
    -- rename unbinds a, and empties what b led to; dup and link lead where a does
    ∷ check
    (call start 0 0 0 0 ++ call create 0 0 0 24 ++ call create 0 1 1 25 ++ call label 0 25 1 0 ++ call close 0 1 0 0 ++ call rename 0 0 1 0 ++ call open_name 0 0 2 0 ++ call dup 0 0 3 0 ++ call label 0 24 2 0 ++ call read 0 3 0 0 ++ call link 0 1 4 0 ++ call open_name 0 4 5 0)
    (gaining (0 ∷ 0 ∷ 0 ∷ 1 ∷ 0 ∷ 0 ∷ []) ++ refused 15 ∷ gaining (0 ∷ 1 ∷ 1 ∷ 0 ∷ 0 ∷ []))
    (holding 25 0 ∷ holding 8 4 ∷ [])
    ∷ []

unfoldable pub Further : Type 0
Further = map outcome_of further ≡ further

-- ---- 02, Paper 1: holders in rising container number
-- a query for the holders of an item with a lent slice, the reply, and the slice after it
pub record Query : Type 0 where
  pub item : ℕ
  pub lent : List ℕ
  pub reply : Reply
  pub slice : List ℕ

-- a log, and queries at its end
pub record Asked : Type 0 where
  pub log : List ℕ
  pub queries : List Query

-- reply and slice as the definitions have them
unfoldable pub replied_in : State → Query → Query
replied_in s q = record { item = q.item; lent = q.lent; reply = holders_query s q.item (length q.lent); slice = holders_slice s q.item q.lent }

unfoldable pub replied : Asked → Asked
replied x = record { log = x.log; queries = map (replied_in (run_log fresh x.log).state) x.queries }

abbrev ask : List ℕ → List Query → Asked
ask log queries = record { log = log; queries = queries }

abbrev query : ℕ → List ℕ → Reply → List ℕ → Query
query i lent reply slice = record { item = i; lent = lent; reply = reply; slice = slice }

-- item 1 comes to 63, then to 24, to process 15 (container 23) and last to device 0
unfoldable pub falling : List ℕ
falling =
    call start 15 0 0 0 ++ call create 15 0 0 63 ++ call create 15 1 1 24 ++ call label 0 63 1 0 ++ call label 0 24 1 0 ++ call read 15 1 0 0
    ++ call label 0 0 1 0

unfoldable pub asked : List Asked
asked =
    -- in rising number, whatever the order in which they came to hold it; elements past these keep their numbers
    ask falling (query 1 (100 ∷ 101 ∷ 102 ∷ 103 ∷ 104 ∷ 105 ∷ []) (result 4) (0 ∷ 23 ∷ 24 ∷ 63 ∷ 104 ∷ 105 ∷ []) ∷ [])
    -- the slice just fits; it is one too short, and keeps its numbers; no holder; an item out of range
    ∷ ask
    shared
    (query 2 (100 ∷ 101 ∷ 102 ∷ 103 ∷ []) (result 4) (8 ∷ 9 ∷ 24 ∷ 25 ∷ [])
    ∷ query 2 (100 ∷ 101 ∷ 102 ∷ []) (refuse 13) (100 ∷ 101 ∷ 102 ∷ [])
    ∷ query 63 [] (result 0) []
    ∷ query 64 [] (refuse 5) []
    ∷ [])
    ∷ []

unfoldable pub HoldersAsked : Type 0
HoldersAsked = map replied asked ≡ asked

-- ---- 02, Paper 2: which thing was missing
unfoldable pub lacking : List Check
lacking =
    -- each kind that needs something: descriptor 3 is closed, name 3 unbound, 24 not mapped, 24 not in use
    check
    (call start 0 0 0 0 ++ call dup 0 3 4 0 ++ call close 0 3 0 0 ++ call read 0 3 0 0 ++ call write 0 3 0 0 ++ call truncate 0 3 0 0 ++ call map_read 0 3 0 0 ++ call map_both 0 3 0 0 ++ call open_name 0 3 3 0 ++ call unlink 0 3 0 0 ++ call rename 0 3 4 0 ++ call link 0 3 4 0 ++ call unmap 0 24 1 0 ++ call label 0 24 3 0)
    (allowed 1 ++ table 7 (λ k. refused 14) ++ table 4 (λ k. refused 15) ++ refused 16 ∷ refused 8 ∷ [])
    []
    -- the earliest place decides. Dup of a closed descriptor onto an open one is 7, onto a closed one 14, even onto itself; a pipe with one
    -- descriptor twice is 9 where it is closed, 7 where it is open; truncate of a closed descriptor is 14, of a device 10; link of an unbound
    -- name onto a bound one is 7, onto itself 15
    ∷ check
    (call start 0 0 0 0 ++ call device 0 1 2 0 ++ call dup 0 3 1 0 ++ call dup 0 3 4 0 ++ call dup 0 3 3 0 ++ call pipe 0 3 3 24 ++ call pipe 0 1 1 24 ++ call truncate 0 3 0 0 ++ call truncate 0 1 0 0 ++ call create 0 5 0 24 ++ call link 0 3 5 0 ++ call link 0 3 3 0)
    (allow 0 ∷ allow 0 ∷ refused 7 ∷ refused 14 ∷ refused 14 ∷ refused 9 ∷ refused 7 ∷ refused 14 ∷ refused 10 ∷ allow 0 ∷ refused 7 ∷ refused 15 ∷ [])
    []
    -- a file whose name, descriptor and links end one by one
    ∷ check
    (call start 0 0 0 0 ++ call create 0 5 0 24 ++ call map_both 0 0 0 0 ++ call unlink 0 5 0 0 ++ call open_name 0 5 1 0 ++ call close 0 0 0 0 ++ call read 0 0 0 0 ++ call label 0 24 1 0 ++ call unmap 0 24 1 0 ++ call unmap 0 24 1 0 ++ call label 0 24 1 0)
    (allowed 4 ++ refused 15 ∷ allow 0 ∷ refused 14 ∷ allow 2 ∷ allow 0 ∷ refused 16 ∷ refused 8 ∷ [])
    (holding 8 2 ∷ holding 24 0 ∷ [])
    ∷ []

unfoldable pub Lacking : Type 0
Lacking = map outcome_of lacking ≡ lacking

-- ---- 02, Paper 3: map both
-- 24 holds item 1 and links to process 1; process 0 (container 8) holds item 2 and links to 25
unfoldable pub two_sides : List ℕ
two_sides =
    call start 0 0 0 0 ++ call start 1 0 0 0 ++ call create 0 0 0 24 ++ call create 0 1 1 25 ++ call open_name 1 0 0 0 ++ call label 0 24 1 0
    ++ call map_read 1 0 0 0 ++ call map_both 0 1 0 0 ++ call label 0 8 2 0

unfoldable pub mapping_both : List Check
mapping_both =
    -- process 0 maps 24 both ways: both items are on both sides, and what comes later to either end comes to all
    check
    (two_sides ++ call map_both 0 0 0 0 ++ call label 0 25 3 0 ++ call label 0 24 4 0)
    (gaining (0 ∷ 0 ∷ 0 ∷ 0 ∷ 0 ∷ 1 ∷ 1 ∷ 0 ∷ 2 ∷ 4 ∷ 4 ∷ 4 ∷ []))
    (holding 8 30 ∷ holding 25 30 ∷ holding 24 30 ∷ holding 9 30 ∷ [])
    -- where item 2 may not be in process 1, or item 1 not in 25, it is inhibited, and no link is laid: item 4 on 24 stays on its side, and
    -- there is nothing to unmap
    ∷ check
    (set_rule 0x11 2 0 0 2 0 0 0 ++ two_sides ++ call map_both 0 0 0 0 ++ call label 0 24 4 0 ++ call unmap 0 24 1 0)
    (rule 0 ∷ gaining (0 ∷ 0 ∷ 0 ∷ 0 ∷ 0 ∷ 1 ∷ 1 ∷ 0 ∷ 2 ∷ []) ++ inhibit 0 ∷ allow 2 ∷ refused 16 ∷ [])
    (holding 8 4 ∷ holding 25 4 ∷ holding 24 18 ∷ holding 9 18 ∷ [])
    ∷ check
    (set_rule 0x11 1 2 0 0 0 0 0 ++ two_sides ++ call map_both 0 0 0 0 ++ call label 0 24 4 0 ++ call unmap 0 24 1 0)
    (rule 0 ∷ gaining (0 ∷ 0 ∷ 0 ∷ 0 ∷ 0 ∷ 1 ∷ 1 ∷ 0 ∷ 2 ∷ []) ++ inhibit 0 ∷ allow 2 ∷ refused 16 ∷ [])
    (holding 8 4 ∷ holding 25 4 ∷ holding 24 18 ∷ holding 9 18 ∷ [])
    ∷ []

unfoldable pub MappingBoth : Type 0
MappingBoth = map outcome_of mapping_both ≡ mapping_both

-- ---- 02, Paper 4: mapped twice
-- process 0 has 24, the beat buffer, open and maps it for reading twice, as two nested callbacks do
unfoldable pub nested : List ℕ
nested = call start 0 0 0 0 ++ call create 0 0 0 24 ++ call map_read 0 0 0 0 ++ call map_read 0 0 0 0

-- process 0 maps 24 both ways once, and once for reading
unfoldable pub two_sorts : List ℕ
two_sorts = call start 0 0 0 0 ++ call create 0 0 0 24 ++ call map_both 0 0 0 0 ++ call map_read 0 0 0 0

unfoldable pub mapped_twice : List Check
mapped_twice =
    -- one unmap: what comes to 24 still reaches process 0 (container 8). The second unmap ends the link: item 2 does not, and a third is 16
    check
    (nested ++ call unmap 0 24 0 0 ++ call label 0 24 1 0 ++ call unmap 0 24 0 0 ++ call label 0 24 2 0 ++ call unmap 0 24 0 0)
    (gaining (0 ∷ 0 ∷ 0 ∷ 0 ∷ 0 ∷ 2 ∷ 0 ∷ 1 ∷ []) ++ refused 16 ∷ [])
    (holding 8 2 ∷ holding 24 6 ∷ [])
    -- both sorts: the two-way unmap ends the way back only. Item 1 of the process does not come to 24, item 2 of 24 comes to the process. No
    -- two-way mapping is left to unmap, and the one for reading is
    ∷ check
    (two_sorts ++ call unmap 0 24 1 0 ++ call label 0 8 1 0 ++ call label 0 24 2 0 ++ call unmap 0 24 1 0 ++ call unmap 0 24 0 0 ++ call label 0 24 3 0)
    (gaining (0 ∷ 0 ∷ 0 ∷ 0 ∷ 0 ∷ 1 ∷ 2 ∷ []) ++ refused 16 ∷ allow 0 ∷ allow 1 ∷ [])
    (holding 8 6 ∷ holding 24 12 ∷ [])
    -- the unmap for reading leaves both links, and no further mapping for reading: a two-way one is none
    ∷ check
    (two_sorts ++ call unmap 0 24 0 0 ++ call label 0 8 1 0 ++ call label 0 24 2 0 ++ call unmap 0 24 0 0 ++ call unmap 0 24 2 0)
    (gaining (0 ∷ 0 ∷ 0 ∷ 0 ∷ 0 ∷ 2 ∷ 2 ∷ []) ++ refused 16 ∷ refused 5 ∷ [])
    (holding 8 6 ∷ holding 24 6 ∷ [])
    -- a child has the counts of its parent, and lowers its own: of two mappings it unmaps one, then the other
    ∷ check
    (nested ++ call fork 0 1 0 0 ++ call unmap 1 24 0 0 ++ call label 0 24 1 0 ++ call unmap 1 24 0 0 ++ call label 0 24 2 0)
    (gaining (0 ∷ 0 ∷ 0 ∷ 0 ∷ 0 ∷ 0 ∷ 3 ∷ 0 ∷ 2 ∷ []))
    (holding 8 6 ∷ holding 9 2 ∷ [])
    -- an exit clears them: the next process 0 has none of either sort, and its one mapping ends by one unmap
    ∷ check
    (nested ++ call map_both 0 0 0 0 ++ call exit 0 0 0 0 ++ call start 0 0 0 0 ++ call unmap 0 24 0 0 ++ call unmap 0 24 1 0 ++ call open_name 0 0 0 0 ++ call map_read 0 0 0 0 ++ call unmap 0 24 0 0 ++ call label 0 24 1 0)
    (allowed 7 ++ refused 16 ∷ refused 16 ∷ gaining (0 ∷ 0 ∷ 0 ∷ 1 ∷ []))
    (holding 8 0 ∷ holding 24 2 ∷ [])
    -- 24 stays in use while a mapping is left: its name and its descriptor ended, the second unmap empties it
    ∷ check (nested ++ call label 0 24 1 0 ++ call unlink 0 0 0 0 ++ call close 0 0 0 0 ++ call unmap 0 24 0 0) (gaining (0 ∷ 0 ∷ 0 ∷ 0 ∷ 2 ∷ 0 ∷ 0 ∷ 0 ∷ [])) (holding 24 2 ∷ holding 8 2 ∷ [])
    ∷ check (nested ++ call label 0 24 1 0 ++ call unlink 0 0 0 0 ++ call close 0 0 0 0 ++ call unmap 0 24 0 0 ++ call unmap 0 24 0 0) (gaining (0 ∷ 0 ∷ 0 ∷ 0 ∷ 2 ∷ 0 ∷ 0 ∷ 0 ∷ 0 ∷ [])) (holding 24 0 ∷ holding 8 2 ∷ [])
    -- the write of what came over the link that is left is inhibited
    ∷ check
    (set_rule 0x11 1 0 0 0 1 0 0 ++ nested ++ call device 0 1 0 0 ++ call unmap 0 24 0 0 ++ call label 0 24 1 0 ++ call write 0 1 0 0)
    (rule 0 ∷ gaining (0 ∷ 0 ∷ 0 ∷ 0 ∷ 0 ∷ 0 ∷ 2 ∷ []) ++ inhibit 0 ∷ [])
    (holding 8 2 ∷ holding 0 0 ∷ [])
    ∷ []

unfoldable pub MappedTwice : Type 0
MappedTwice = map outcome_of mapped_twice ≡ mapped_twice

-- Process 0 maps 24 for reading 255 times, and once more: 17. It forks process 1: both have the count, 17 for either. After an unmap process 1 has
-- room for one.
unfoldable pub filling : List (List ℕ)
filling =
    call start 0 0 0 0
    ∷ call create 0 0 0 24
    ∷ replicate 255 (call map_read 0 0 0 0)
    ++ (call map_read 0 0 0 0 ∷ call fork 0 1 0 0 ∷ call map_read 0 0 0 0 ∷ call map_read 1 0 0 0 ∷ call unmap 1 24 0 0 ∷ call map_read 1 0 0 0 ∷ call map_read 1 0 0 0 ∷ [])

unfoldable pub Filled : Type 0
Filled =
    (answer_all fresh filling).answers
    ≡ allow 0 ∷ allow 0 ∷ replicate 255 (allow 0) ++ (refused 17 ∷ allow 0 ∷ refused 17 ∷ refused 17 ∷ allow 0 ∷ allow 0 ∷ refused 17 ∷ [])

-- ---- 02, Paper 5: how far a call spread; the runs above state how many gained too, run B (`further`) and map both (`mapping_both`) among them
-- processes 0 and 1 map 24 for reading
unfoldable pub heard : List ℕ
heard = call start 0 0 0 0 ++ call start 1 0 0 0 ++ call create 0 0 0 24 ++ call open_name 1 0 0 0 ++ call map_read 0 0 0 0 ++ call map_read 1 0 0 0

unfoldable pub spreading : List Check
spreading =
    -- a label of 24: it gains, and both processes do. The same again, and a read of what is held already: none
    check
    (heard ++ call label 0 24 1 0 ++ call label 0 24 1 0 ++ call read 0 0 0 0)
    (gaining (0 ∷ 0 ∷ 0 ∷ 0 ∷ 0 ∷ 0 ∷ 3 ∷ 0 ∷ 0 ∷ []))
    (holding 8 2 ∷ holding 9 2 ∷ holding 24 2 ∷ [])
    -- containers count, not items: process 0 holds items 1 and 2 and writes 24, which gains both, as does process 1
    ∷ check
    (heard ++ call label 0 8 1 0 ++ call label 0 8 2 0 ++ call write 0 0 0 0)
    (gaining (0 ∷ 0 ∷ 0 ∷ 0 ∷ 0 ∷ 0 ∷ 1 ∷ 1 ∷ 2 ∷ []))
    (holding 8 6 ∷ holding 9 6 ∷ holding 24 6 ∷ [])
    -- a forked child gains if its parent holds anything; emptying is no gain
    ∷ check
    (call start 0 0 0 0 ++ call fork 0 1 0 0 ++ call label 0 8 1 0 ++ call label 0 8 2 0 ++ call fork 0 2 0 0 ++ call exit 2 0 0 0 ++ call exit 0 0 0 0)
    (gaining (0 ∷ 0 ∷ 1 ∷ 1 ∷ 1 ∷ 0 ∷ 0 ∷ []))
    (holding 8 0 ∷ holding 9 0 ∷ holding 10 0 ∷ [])
    ∷ check
    (filed ++ call truncate 0 0 0 0 ++ call label 0 24 1 0)
    (gaining (0 ∷ 0 ∷ 1 ∷ 0 ∷ 1 ∷ []))
    (holding 24 2 ∷ [])
    -- a diverted write tells what gained by it, in the reach of the substitute 24 and not in that of the device written: 24 and process 1, and
    -- none the second time. Where it is inhibited no number is told
    ∷ check
    (heard ++ call label 0 8 1 0 ++ call device 0 1 1 0 ++ set_rule 0x11 1 0 0 0 2 1 24 ++ call unmap 0 24 0 0 ++ call write 0 1 0 0 ++ call write 0 1 0 0 ++ set_rule 0x11 1 0 0 0 4 0 0 ++ call device 0 2 2 0 ++ call write 0 2 0 0)
    (gaining (0 ∷ 0 ∷ 0 ∷ 0 ∷ 0 ∷ 0 ∷ 1 ∷ 0 ∷ []) ++ rule 0 ∷ allow 0 ∷ modify 0 24 2 ∷ modify 0 24 0 ∷ rule 1 ∷ allow 0 ∷ inhibit 1 ∷ [])
    (holding 1 0 ∷ holding 24 2 ∷ holding 9 2 ∷ [])
    ∷ []

unfoldable pub Spreading : Type 0
Spreading = map outcome_of spreading ≡ spreading

-- ---- contents do move
-- the sum of the contents of what links to a container
unfoldable pub total : List (Feeder ℕ) → ℕ
total [] = 0
total (x ∷ l) = x.contents + total l

unfoldable pub remembered : ℕ → List (Feeder ℕ) → ℕ
remembered old [] = old
remembered old (x ∷ l) = x.contents + total l

-- a machine in which a gift goes by a function of the receiver's number, its contents and what is given, and a memory step takes the sum of
-- what links to a container, where anything does
unfoldable pub copying : (ℕ → ℕ → ℕ → ℕ) → Machine ℕ
copying take = record { empty = 0; gift = λ v old n g. take v old g; both_gifts = λ v old n a b. old; fork = λ v old n p. p; memory = λ v old n l. remembered old l }

abbrev step : Kind → ℕ → ℕ → ℕ → ℕ → Step
step k p a b c = entry (call k p a b c)

-- file 24 is labelled with item 1, process 0 reads it and writes device 1
unfoldable pub carried : List Step
carried = step start 0 0 0 0 ∷ step create 0 5 0 24 ∷ step label 0 24 1 0 ∷ step device 0 1 1 0 ∷ step read 0 0 0 0 ∷ step write 0 1 0 0 ∷ []

-- 24 links to process 0 and that to 25; 24 is labelled with item 1, and two memory steps follow
unfoldable pub chained : List Step
chained =
    step start 0 0 0 0
    ∷ step create 0 0 0 24
    ∷ step create 0 1 1 25
    ∷ step map_read 0 0 0 0
    ∷ step map_both 0 1 0 0
    ∷ step label 0 24 1 0
    ∷ memory
    ∷ memory
    ∷ []

-- 02, Paper 4: process 0 maps 24 for reading twice and unmaps it once; 24 is labelled with item 1, and a memory step follows
unfoldable pub unmapped_once : List Step
unmapped_once =
    step start 0 0 0 0
    ∷ step create 0 0 0 24
    ∷ step map_read 0 0 0 0
    ∷ step map_read 0 0 0 0
    ∷ step unmap 0 24 0 0
    ∷ step label 0 24 1 0
    ∷ memory
    ∷ []

-- the contents of container c at the end of n steps, where 24 alone takes gifts, or every container does
abbrev alone : ℕ → List Step → ℕ → ℕ → ℕ
alone input steps n c = (run_at (copying (λ v old g. elim (eqb v 24) [ true ↦ g | false ↦ old ])) (λ k. input) steps n).contents c

abbrev each : ℕ → List Step → ℕ → ℕ → ℕ
each input steps n c = (run_at (copying (λ v old g. g)) (λ k. input) steps n).contents c

-- The contents of device 1, recorded as holding item 1, differ with the input; those of device 2 don't. Where the label's gift changes 24
-- alone, the first memory step carries it to process 0 (container 8) and the second to 25; both were recorded as holding item 1 before.
-- Over the link that one unmap of two leaves, the memory step carries it to process 0.
unfoldable pub Moves : Type 0
Moves =
    (items_of (state_at carried 6) 1 ≡ 2) × (each 7 carried 6 1 ≡ 7) × (each 9 carried 6 1 ≡ 9) × (each 7 carried 6 2 ≡ 0)
    × (items_of (state_at chained 6) 25 ≡ 2) × (alone 7 chained 6 8 ≡ 0) × (alone 7 chained 7 8 ≡ 7) × (alone 7 chained 7 25 ≡ 0)
    × (alone 7 chained 8 25 ≡ 7) × (alone 9 chained 8 25 ≡ 9) × (alone 7 unmapped_once 7 8 ≡ 7) × (alone 9 unmapped_once 7 8 ≡ 9)
