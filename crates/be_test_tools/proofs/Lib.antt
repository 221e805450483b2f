mod PageStates
