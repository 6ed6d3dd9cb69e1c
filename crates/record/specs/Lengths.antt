-- Believed: How long the replies and the results are (document 01, 'Replies and stopping'; document 02, requests 2/12 and 6/12).
use Rattle.std.specs.Prelude.{ℕ, ◌/◌}

-- refusal 1: 'replies are not 40,000'
abbrev pub replies_length : ℕ
replies_length = 40000

-- 'The result grows to 16 bytes', 'Refusals: 1 asks for 16'
abbrev pub result_length : ℕ
result_length = 16

-- how many replies have a place: 'each record has four reply bytes'
abbrev pub reply_places : ℕ
reply_places = replies_length / 4

-- a plan's result: answer and number, four bytes each
abbrev pub plan_result_length : ℕ
plan_result_length = 8
