-- Rules as they are stored (01, The records): in fields four numbers for each rule and, behind those of all rules, how many are loaded; in
-- sets the container set of each rule, or for tag 12 hex its second item.
use Rattle.std.specs.Prelude.{ℕ, ◌+◌, ◌*◌, ◌%◌, true, false, List, ltb, get_or}
use Rattle.flow.specs.Lists.{table}
use Rattle.flow.specs.Box.{container_count, rule_count, Condition, Rule}
use Rattle.flow.specs.Records.{condition_of}

-- ---- the places in fields
abbrev pub fields_each : ℕ
fields_each = 4

abbrev pub tag_field : ℕ
tag_field = 0

abbrev pub item_field : ℕ
item_field = 1

abbrev pub action_field : ℕ
action_field = 2

abbrev pub substitute_field : ℕ
substitute_field = 3

-- behind the fields of 32 rules
abbrev pub count_field : ℕ
count_field = 128

-- the place of field n of rule k
abbrev pub place : ℕ → ℕ → ℕ
place k n = fields_each * k + n

abbrev pub field_at : List ℕ → ℕ → ℕ → ℕ
field_at fields k n = get_or fields (place k n) 0

-- ---- rule k
unfoldable pub condition_at : List ℕ → List ℕ → ℕ → Condition
condition_at sets fields k = condition_of (field_at fields k tag_field) (field_at fields k item_field) (get_or sets k 0)

unfoldable pub action_at : List ℕ → ℕ → ℕ
action_at fields k = field_at fields k action_field

-- a container whatever is stored
unfoldable pub substitute_at : List ℕ → ℕ → ℕ
substitute_at fields k = field_at fields k substitute_field % container_count

abbrev pub rule_at : List ℕ → List ℕ → ℕ → Rule
rule_at sets fields k = record { condition = condition_at sets fields k; action = action_at fields k; substitute = substitute_at fields k }

-- how many rules are loaded, 32 at most whatever is stored
unfoldable pub count_of : List ℕ → ℕ
count_of fields =
    let n = get_or fields count_field 0 in
    elim (ltb n rule_count) [ true ↦ n | false ↦ rule_count ]

-- the loaded rules, number 0 first
unfoldable pub rules_of : List ℕ → List ℕ → List Rule
rules_of sets fields = table (count_of fields) (rule_at sets fields)
