mod FetchLaws
