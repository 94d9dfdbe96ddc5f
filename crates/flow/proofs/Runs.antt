-- The starred runs have their stated outcomes, refusals tell what was missing, holders come in rising number, map both gives both ways and
-- its two forms differ in a torn state, mappings are counted, calls tell how many gained, and contents do move: by computation.
use native.Mathlib.Omega.{arith}
use mathlib.Core.Path.{◌≡◌, refl, ap, ◌∙◌}
use mathlib.Core.List.{map}
use lib.ListN.{length}
use Rattle.flow.specs.Gained.{has_more, gained}
use Rattle.sets.specs.Sets.{has, members, only, ◌∪◌, ◌∩◌, bit, those_from, those, rising_from, rising, without}
use Rattle.flow.specs.Lists.{table_from, table, some_below, is_in, ◌⇒◌, first_that, is_none}
use Rattle.flow.specs.Box.{State, is_device, is_process, is_file, fresh, items_of, row_of, mappings, mapped_in, feeders_of, feeds, descriptor, name, is_target, holds, is_live, is_open, is_bound, no_mappings, no_tables}
use Rattle.flow.specs.Links.{linked, meets, through, through_each, closure, reach, given, is_fed, mapped, used}
use Rattle.flow.specs.MapBoth.{in_sequence, at_once}
use Rattle.flow.specs.Calls.{rename, Call, kind_number, is_kind, with_live, with_descriptors, with_names, with_row, with_rows, raised, lowered, sort_of, put_block, block, tables_by, flow_by, change, moved, ended, items_after, after}
use Rattle.flow.specs.Rules.{breaks, broken, first_broken, lowest_broken, forbids}
use Rattle.flow.specs.Records.{byte_at, tag_of, stated_length, record_length, value_of, cut_short, known_tag, tag_length, wrong_length, kinds, kind_of, call_by, call_from, call_in, condition_of, number_from, set_in, rule_with, rule_in, frame_tests, content_of, reading_by, reading, call_read, call_of, records_in, records_of}
use Rattle.flow.specs.Refusals.{in_range, ranges, fields_fit, dead, taken, need_of, missing, same_descriptors, no_file, full, call_tests, items_fit, substitute_fits, same_items, field_tests, rule_tests}
use Rattle.flow.specs.Verdicts.{allows, diversion, may_divert, breaks_none, stopped, verdict_by, verdict_at, verdict, outcome_of_call, outcome_of_rule, outcome_of as outcome_read, outcome, answer_of, answer, with_rule, state_after, next, answer_all, run_log}
use Rattle.flow.specs.Queries.{holders, holders_refusal, reply_by, holders_query, slice_by, holders_slice}
use Rattle.flow.specs.Contents.{flowed, changed, contents_after, linked_to, step_contents, step_state, state_at, run_at, label_of, item_labelled}
use Rattle.flow.specs.Runs.{outcome_of, call, shared, filed, renamed, spare, thirty_two, allowed, starred, Starred, further, Further, lacking, Lacking, total, remembered, copying, carried, chained, unmapped_once, Moves, replied_in, replied, falling, asked, HoldersAsked, two_sides, mapping_both, MappingBoth, nested, two_sorts, mapped_twice, MappedTwice, Filled, run_b, gaining, heard, spreading, Spreading}
use Rattle.flow.specs.Kept.{Kept, EveryRecordKeeps}
use Rattle.flow.proofs.Bools.{no_both}
use Rattle.flow.proofs.Keeping.{every_record_keeps}
use Rattle.flow.proofs.Filling.{Opened, filled}
use Rattle.flow.proofs.Renaming.{renamed_itself}
use Rattle.flow.specs.AtOnce.{moved_at_once, after_at_once, verdict_at_once, outcome_of_call_at_once, outcome_of_at_once, outcome_at_once, state_after_at_once, next_at_once, torn, Torn, NeverTorn, FormsDiffer}

-- J: its last record meets the state of the others, in which it is allowed, and a name renamed to itself changes none. Computed, the items of
-- both states take longer than all other starred runs together.
abbrev met : State
met = (run_log fresh filed).state

abbrev itself : Call
itself = record { kind = rename; process = 0; a = 5; b = 5; c = 0 }

last_meets : (run_log fresh renamed).state ≡ state_after met (outcome met (call rename 0 5 5 0))
unfolding byte_at tag_of stated_length record_length cut_short records_in records_of answer_all run_log call kind_number filed renamed
last_meets = refl

abbrev Allowed : Type 0
Allowed = (outcome met (call rename 0 5 5 0) ≡ allows (change met.tables itself) 0) × (length met.items ≡ 64)

-- in two parts, each within the steps that one proof may take; not one by one, since each would unfold the same definitions
first_runs : (map outcome_of starred ≡ starred) × Allowed × Further × Lacking × HoldersAsked
unfolding has only ◌∪◌ ◌∩◌ bit those_from those without table_from table some_below is_in first_that ◌⇒◌ is_device is_process is_file fresh items_of row_of mappings mapped_in feeders_of feeds descriptor name is_target linked meets through through_each closure reach given mapped used kind_number with_live with_descriptors with_names with_row with_rows raised lowered sort_of put_block block is_fed tables_by flow_by change moved ended items_after after holds breaks broken first_broken lowest_broken forbids byte_at tag_of stated_length record_length value_of cut_short known_tag tag_length wrong_length kinds kind_of call_by call_from call_in condition_of number_from set_in rule_with rule_in frame_tests content_of reading_by reading call_read call_of records_in records_of in_range ranges fields_fit is_live is_open is_bound dead taken need_of missing same_descriptors no_file full call_tests items_fit substitute_fits same_items field_tests rule_tests no_mappings no_tables is_none is_kind diversion may_divert breaks_none stopped verdict_by verdict_at verdict has_more gained members outcome_of_call outcome_of_rule outcome_read outcome answer_of answer with_rule state_after next answer_all run_log flowed changed contents_after linked_to step_contents step_state state_at run_at label_of item_labelled outcome_of call shared filed renamed spare thirty_two allowed starred Starred total remembered copying carried chained unmapped_once Moves further Further lacking Lacking replied_in replied falling asked HoldersAsked holders holders_refusal reply_by holders_query slice_by holders_slice rising_from rising two_sides mapping_both MappingBoth nested two_sorts mapped_twice MappedTwice Opened run_b gaining heard spreading Spreading in_sequence at_once moved_at_once after_at_once verdict_at_once outcome_of_call_at_once outcome_of_at_once outcome_at_once state_after_at_once next_at_once torn Torn FormsDiffer
first_runs = (refl, (refl, refl), refl, refl, refl)

later_runs : MappingBoth × FormsDiffer × Torn × Moves × MappedTwice × Opened × Spreading
unfolding has only ◌∪◌ ◌∩◌ bit those_from those without table_from table some_below is_in first_that ◌⇒◌ is_device is_process is_file fresh items_of row_of mappings mapped_in feeders_of feeds descriptor name is_target linked meets through through_each closure reach given mapped used kind_number with_live with_descriptors with_names with_row with_rows raised lowered sort_of put_block block is_fed tables_by flow_by change moved ended items_after after holds breaks broken first_broken lowest_broken forbids byte_at tag_of stated_length record_length value_of cut_short known_tag tag_length wrong_length kinds kind_of call_by call_from call_in condition_of number_from set_in rule_with rule_in frame_tests content_of reading_by reading call_read call_of records_in records_of in_range ranges fields_fit is_live is_open is_bound dead taken need_of missing same_descriptors no_file full call_tests items_fit substitute_fits same_items field_tests rule_tests no_mappings no_tables is_none is_kind diversion may_divert breaks_none stopped verdict_by verdict_at verdict has_more gained members outcome_of_call outcome_of_rule outcome_read outcome answer_of answer with_rule state_after next answer_all run_log flowed changed contents_after linked_to step_contents step_state state_at run_at label_of item_labelled outcome_of call shared filed renamed spare thirty_two allowed starred Starred total remembered copying carried chained unmapped_once Moves further Further lacking Lacking replied_in replied falling asked HoldersAsked holders holders_refusal reply_by holders_query slice_by holders_slice rising_from rising two_sides mapping_both MappingBoth nested two_sorts mapped_twice MappedTwice Opened run_b gaining heard spreading Spreading in_sequence at_once moved_at_once after_at_once verdict_at_once outcome_of_call_at_once outcome_of_at_once outcome_at_once state_after_at_once next_at_once torn Torn FormsDiffer
later_runs = (refl, (refl, refl, refl, refl), (λ rules. (refl, refl, refl)), (refl, refl, refl, refl, refl, refl, refl, refl, refl, refl, refl, refl), refl, (refl, refl, refl, refl, refl, refl, refl), refl)

pub starred_runs : Starred
unfolding Starred state_after
starred_runs = (first_runs.0, last_meets ∙ ap (state_after met) first_runs.1.0 ∙ renamed_itself met 0 5 0 first_runs.1.1)

pub further_checks : Further
further_checks = first_runs.2

pub lacking_told : Lacking
lacking_told = first_runs.3

pub holders_asked : HoldersAsked
holders_asked = first_runs.4

pub mapping_both_lem : MappingBoth
mapping_both_lem = later_runs.0

pub forms_differ : FormsDiffer
forms_differ = later_runs.1

pub torn_is : Torn
torn_is = later_runs.2

pub contents_move : Moves
contents_move = later_runs.3

pub mapped_twice_lem : MappedTwice
mapped_twice_lem = later_runs.4

pub counts_filled : Filled
counts_filled = filled later_runs.5

pub spreading_told : Spreading
spreading_told = later_runs.6

-- a torn state has a link that an item does not go along
pub never_torn : NeverTorn
unfolding NeverTorn Torn EveryRecordKeeps
never_torn rules steps k e =
    let kept : Kept (torn rules) = rw e at (every_record_keeps steps k) in
    no_both (kept.along 24 9 1 (omega arith) (omega arith) (torn_is rules).0 (torn_is rules).1) (torn_is rules).2
