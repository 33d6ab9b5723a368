mod FirstLemmas
